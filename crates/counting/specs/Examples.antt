-- The worked examples, at nodes. Assumes nothing.
use Rattle.std.specs.Prelude.{◌≡◌, ℕ, Bool, List, [], ◌∷◌, nat_lt}
use Rattle.keys.specs.declared.node.Node.{Node}
use Rattle.counting.specs.Book.{Book, opened, bounds, put_answer, after_put, take_answer, after_take}
use Rattle.counting.specs.Runs.{Event, put_of, take_of, puts, takes, Run}

-- a call of a list, with no answer yet
pub data Call (K : Type 0) : Type 0 where
  put : K → Call K
  take : K → Call K

-- the book after the calls, the first call first
abbrev pub after : {K : Type 0} → (K → K → Bool) → Book K → List (Call K) → Book K
after before b [] = b
after before b (put x ∷ cs) = after before (after_put before b x) cs
after before b (take x ∷ cs) = after before (after_take before b x) cs

-- the calls with their answers, the last first, after those of `past`
abbrev pub history : {K : Type 0} → (K → K → Bool) → Book K → List (Event K) → List (Call K) → List (Event K)
history before b past [] = past
history before b past (put x ∷ cs) = history before (after_put before b x) (put_of x (put_answer b) ∷ past) cs
history before b past (take x ∷ cs) = history before (after_take before b x) (take_of x (take_answer before b x) ∷ past) cs

abbrev pub node : ℕ → Node
node n = record { number = n }

abbrev pub by_number : Node → Node → Bool
by_number x y = nat_lt x.number y.number

-- a book of two places
abbrev pub two_wide : Book Node
two_wide = opened 2 16777215

abbrev pub plus : ℕ → Call Node
plus n = put (node n)

abbrev pub minus : ℕ → Call Node
minus n = take (node n)

-- a retraction among the readings, and a key that comes back
abbrev pub first : List (Call Node)
first = plus 1 ∷ plus 1 ∷ plus 1 ∷ plus 3 ∷ minus 1 ∷ plus 2 ∷ plus 1 ∷ minus 3 ∷ minus 2 ∷ []

-- a key that lost its place comes back counted from what it may have had
abbrev pub second : List (Call Node)
second = plus 1 ∷ plus 1 ∷ plus 2 ∷ plus 2 ∷ plus 3 ∷ minus 2 ∷ minus 2 ∷ plus 1 ∷ []

pub record WorkedExamples : Type 0 where
  pub first_of_1 : bounds by_number (after by_number two_wide first) (node 1) ≡ (3, 3)
  pub first_of_2 : bounds by_number (after by_number two_wide first) (node 2) ≡ (0, 1)
  pub first_of_3 : bounds by_number (after by_number two_wide first) (node 3) ≡ (0, 2)
  pub second_records : (after by_number two_wide second).records
      ≡ record { key = node 1; ins = 3; outs = 0; slack = 2 } ∷ record { key = node 3; ins = 3; outs = 0; slack = 2 } ∷ []
  pub second_of_1 : bounds by_number (after by_number two_wide second) (node 1) ≡ (1, 3)
  pub second_puts : puts by_number (node 1) (history by_number two_wide [] second) ≡ 3
  pub second_takes : takes by_number (node 1) (history by_number two_wide [] second) ≡ 0
  -- such lists are runs
  pub runs : (cs : List (Call Node)) → Run by_number (history by_number two_wide [] cs) (after by_number two_wide cs)
