-- Lists of calls with their answers, the last call first, and the books they lead to. Assumes nothing.
use Rattle.std.specs.Prelude.{ℕ, ◌+◌, ◌≤◌, Bool, true, false, cond, ◌&&◌, List, [], ◌∷◌, drop, Ok, Err}
use Rattle.counting.specs.Rule.{same}
use Rattle.counting.specs.Book.{Book, Answer, Opened, Put, Taken}

pub data Event (K : Type 0) : Type 0 where
  put_of : K → Answer → Event K
  take_of : K → Answer → Event K

abbrev pub accepted : Answer → Bool
accepted (Ok _) = true
accepted (Err _) = false

-- 1 for an accepted call with the key x, else 0
abbrev pub counts : {K : Type 0} → (K → K → Bool) → K → K → Answer → ℕ
counts before x k a = cond (accepted a && same before k x) 1 0

-- how often x was put
abbrev pub puts : {K : Type 0} → (K → K → Bool) → K → List (Event K) → ℕ
puts before x [] = 0
puts before x (put_of k a ∷ es) = counts before x k a + puts before x es
puts before x (take_of k a ∷ es) = puts before x es

-- how often x was taken
abbrev pub takes : {K : Type 0} → (K → K → Bool) → K → List (Event K) → ℕ
takes before x [] = 0
takes before x (put_of k a ∷ es) = takes before x es
takes before x (take_of k a ∷ es) = counts before x k a + takes before x es

-- how many puts were accepted, of all keys
abbrev pub all_puts : {K : Type 0} → List (Event K) → ℕ
all_puts [] = 0
all_puts (put_of k a ∷ es) = cond (accepted a) 1 0 + all_puts es
all_puts (take_of k a ∷ es) = all_puts es

-- after no call was x taken more often than put
abbrev pub NeverShort : {K : Type 0} → (K → K → Bool) → K → List (Event K) → Type 0
NeverShort before x es = (n : ℕ) → takes before x (drop n es) ≤ puts before x (drop n es)

-- from an opening the calls with their answers lead to this book
pub data Run {K : Type 0} (before : K → K → Bool) : List (Event K) → Book K → Type 0 where
  from_opening : {b : Book K} → Opened b → Run before [] b
  then_put : {es : List (Event K)} {b c : Book K} {x : K} {a : Answer} → Run before es b → Put before b x a c → Run before (put_of x a ∷ es) c
  then_take : {es : List (Event K)} {b c : Book K} {x : K} {a : Answer} → Run before es b → Taken before b x a c → Run before (take_of x a ∷ es) c
