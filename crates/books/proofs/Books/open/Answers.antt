use Rattle.std.proofs.Common.{◌≡◌, ℕ, ◌/◌, ◌<◌, ◌≤◌, List, refl, ap, ◌∙◌, ⊎_elim, arith}
use Rattle.books.specs.declared.fill.Fill.{Fill}
use Rattle.books.proofs.Opening.{none_refilled, each_opened, reached_opened, refused_narrow, refused_wide, refused_short, enough, opens}
use Rattle.books.proofs.Books.open.Goals as goal

pub returns-then-width-lt-NARROWEST : goal.returns-then-width-lt-NARROWEST
returns-then-width-lt-NARROWEST g c =
    let w : ℕ = c.args.width in (
      ⊎_elim
          (λ (lt : w < 2). refused_narrow w c.args.table.len c.args.fills.len lt)
          (λ (p : (2 ≤ w) × (1024 < w)). refused_wide w c.args.table.len c.args.fills.len p.0 p.1)
          c.then-width-lt-NARROWEST.either,
      refl,
      refl,
    )

-- the test on the table's length, of the lengths themselves
short : (w p n q m : ℕ) → p ≡ q → n ≡ m → p / w < n → q / w < m
short w p n q m e f lt = let g = ap (λ (k : ℕ). k / w) e in omega arith

full : (w p n q m : ℕ) → p ≡ q → n ≡ m → n ≤ p / w → m ≤ q / w
full w p n q m e f le = let g = ap (λ (k : ℕ). k / w) e in omega arith

pub returns-then-len-width : goal.returns-then-len-width
returns-then-len-width g c = (
  refused_short c.args.width c.args.table.len c.args.fills.len c.if-width-lt-NARROWEST.false c.if-width-gt-WIDEST.false
      (short _ _ _ _ _ c.len.ensures c.len-2.ensures c.if-len-width.true),
  refl,
  refl,
)

pub invariant_of-result : goal.invariant_of-result
invariant_of-result g c =
    let fs : List Fill = c.empty_all.new.fills in
    record {
      wide = c.if-width-lt-NARROWEST.false;
      narrow = c.if-width-gt-WIDEST.false;
      room = enough c.args.width c.args.table.len c.args.fills.len c.if-width-lt-NARROWEST.false (full _ _ _ _ _ c.len.ensures c.len-2.ensures c.if-len-width.false);
      each = each_opened _ _ _ c.args.width (none_refilled c.args.fills fs (c.empty_all.auto.fills ∙ c.deref_mut.ensures.len) c.empty_all.ensures);
    }

pub returns : goal.returns
returns g c =
    let fs : List Fill = c.empty_all.new.fills in (
      opens c.args.width c.args.table.len c.args.fills.len c.if-width-lt-NARROWEST.false c.if-width-gt-WIDEST.false
          (full _ _ _ _ _ c.len.ensures c.len-2.ensures c.if-len-width.false),
      record {
        table = refl;
        number = refl;
        same_width = refl;
        reached = reached_opened _ (none_refilled c.args.fills fs (c.empty_all.auto.fills ∙ c.deref_mut.ensures.len) c.empty_all.ensures);
      },
    )
