-- The laws of a list of calls, at a ledger that it reached. Assumes nothing.
use Rattle.std.proofs.Common.{◌≡◌, ℕ, ◌<◌, ◌≤◌, List, length, Ok, sym, ◌∙◌, subst}
use Rattle.std.proofs.lemmas.Bool.{cond-true, cond-false, lt-leb, le-leb}
use Rattle.keys.specs.declared.key.Key.{Ghosts}
use Rattle.counting.specs.Rule.{Order}
use Rattle.counting.specs.Book.{ceiling, bounds}
use Rattle.ledger_rules.specs.declared.Entry.{Entry}
use Rattle.ledger_rules.specs.Laws.{Encloses, Narrow, ReportLaw, Lawful}
use Rattle.ledger_rules.specs.Ledgers.{Ledger, report_of, report_answer}
use Rattle.ledger_rules.specs.Tallies.{Event, Run}
use Rattle.ledger_rules.proofs.Reports.{reports_lawful}

module _ {K : Type 0} (l : Ledger K) (t room : ℕ) where
  pub answered : ceiling l.book < t → length (report_of t l) ≤ room → Ok (length (report_of t l)) ≡ report_answer l t room
  answered lt fits = sym (cond-false _ _ _ (lt-leb t (ceiling l.book) lt) ∙ cond-true _ _ _ (le-leb (length (report_of t l)) room fits))

pub report_law : {K : Type 0} (G : Ghosts K) → Order G.before → (l : Ledger K) (t : ℕ) (es : List (Event K)) (out : List (Entry K))
    → ceiling l.book < t → out ≡ report_of t l → Run G es l → ReportLaw G es t out
report_law G order l t es out lt is run = subst (ReportLaw G es t) (sym is) ((reports_lawful G order es l run).report t lt)

pub bounds_law : {K : Type 0} (G : Ghosts K) (l : Ledger K) (es : List (Event K)) (x : K) (p : ℕ × ℕ) → p ≡ bounds G.before l.book x → Lawful G es l
    → Encloses G es x p.0 p.1 × Narrow G es l.book.width l.share p.0 p.1
bounds_law G l es x p is w =
    subst (λ q. Encloses G es x q.0 q.1 × Narrow G es l.book.width l.share q.0 q.1) (sym is) (w.enclosed x, w.narrow x)
