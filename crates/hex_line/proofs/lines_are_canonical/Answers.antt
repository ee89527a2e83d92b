use Rattle.hex_line.proofs.Bytes.{one_line}
use Rattle.hex_line.proofs.lines_are_canonical.Goals as goal

pub returns : goal.returns
returns c = one_line
