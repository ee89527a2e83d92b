-- The entries of a report, record by record. Assumes nothing.
use Rattle.std.proofs.Common.{◌≡◌, ℕ, ◌+◌, ◌*◌, ◌<◌, ◌≤◌, Bool, true, false, cond, leb, List, [], ◌∷◌, ◌++◌, map, length, take, drop, set, Some, None, refl, sym, ap, ◌∙◌, arith}
use Rattle.std.specs.List.{filter_map, cons_option}
use Rattle.std.proofs.lemmas.List.{take_more_set, drop-set-lt, drop-drop, append_assoc}
use Rattle.keys.specs.declared.key.Key.{Ghosts}
use Rattle.counting.specs.declared.Record.{Record}
use Rattle.counting.specs.Rule.{high_of_record}
use Rattle.index.proofs.Tables.{row_count}
use Rattle.books.specs.OfBooks.{part_of, used_of}
use Rattle.books.proofs.Parting.{part_long}
use Rattle.ledger_rules.specs.declared.Entry.{Entry}
use Rattle.ledger_rules.specs.Ledgers.{entry_of, common}
use Rattle.ledger.specs.declared.Ledger.{Ledger}
use Rattle.ledger.specs.OfLedger.{state_of}
use Rattle.ledger.specs.Reports.{common_entry}

step : {K : Type 0} (b : Bool) (r : Record K) (es : List (Entry K)) (rs : List (Record K)) → es ≡ map entry_of rs
    → cons_option (cond b (Some (entry_of r)) None) es ≡ map entry_of (cond b (r ∷ rs) rs)
step true r es rs e = ap (λ l. entry_of r ∷ l) e
step false r es rs e = e

-- the entries of the records one by one are those of the report
pub common_is : {K : Type 0} (t : ℕ) (rs : List (Record K)) → filter_map (common_entry t) rs ≡ common t rs
common_is t [] = refl
common_is t (r ∷ rs) = step (leb t (high_of_record r)) r _ _ (common_is t rs)

module _ {K : Type 0} (t : ℕ) (r : Record K) (rs : List (Record K)) where
  pub common_some : (e : Entry K) → Some e ≡ common_entry t r → common t (r ∷ rs) ≡ e ∷ common t rs
  common_some e is = sym (common_is t (r ∷ rs)) ∙ ap (λ o. cons_option o (filter_map (common_entry t) rs)) (sym is) ∙ ap (λ l. e ∷ l) (common_is t rs)

  pub common_none : None ≡ common_entry t r → common t (r ∷ rs) ≡ common t rs
  common_none is = sym (common_is t (r ∷ rs)) ∙ ap (λ o. cons_option o (filter_map (common_entry t) rs)) (sym is) ∙ common_is t rs

-- one entry more in front of the buffer
module _ {X : Type 0} (out was es all : List X) (n : ℕ) (x : X) (lt : n < length out) where
  pub front_entry : take n out ++ x ∷ es ≡ all → take (n + 1) (set out n x) ++ es ≡ all
  front_entry e = ap (λ l. l ++ es) (take_more_set out n x lt) ∙ append_assoc (take n out) (x ∷ []) es ∙ e

  pub rest_entry : drop n out ≡ drop n was → drop (n + 1) (set out n x) ≡ drop (n + 1) was
  rest_entry e = drop-set-lt (n + 1) out n x (omega arith) ∙ sym (drop-drop 1 n out) ∙ ap (drop 1) e ∙ drop-drop 1 n was

-- a ledger holds no more records than its book has places
pub few_records : {K : Type 0} {G : Ghosts K} (l : Ledger K G) → length (state_of l).book.records ≤ 1024
few_records l =
    let b = l.books in
    let e = b.each 0 in
    let room : (0 + 1) * b.width ≤ length b.table.items = omega (arith, b.room, ap (λ n. n * b.width) l.one) in
    omega (arith, row_count (part_of b 0) (used_of b 0) e.room e.seats.placed, e.room, part_long b.table.items b.width 0 room, b.narrow)
