use Rattle.std.proofs.Common.{rules}
use Rattle.std.proofs.lemmas.List.{take_rest}
use Rattle.commands.proofs.verb_of.Goals as goal

pub returns-in-119 : goal.returns-in-119
returns-in-119 c = (6, search rules, take_rest c.args.line.now 6)

pub returns-in-43 : goal.returns-in-43
returns-in-43 c = (2, search rules, take_rest c.args.line.now 2)

pub returns-in-45 : goal.returns-in-45
returns-in-45 c = (2, search rules, take_rest c.args.line.now 2)

pub returns-in-63 : goal.returns-in-63
returns-in-63 c = (2, search rules, take_rest c.args.line.now 2)
