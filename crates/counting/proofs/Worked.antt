-- The worked examples. Assumes nothing.
use Rattle.std.proofs.Common.{Bool, List, [], ◌∷◌, refl, arith}
use Rattle.counting.specs.Book.{Book, put_answer, after_put, take_answer, after_take}
use Rattle.counting.specs.Runs.{Event, put_of, take_of, Run, from_opening, then_put, then_take}
use Rattle.counting.specs.Examples.{Call, put, take, after, history, by_number, two_wide, WorkedExamples}

goes_on : {K : Type 0} (before : K → K → Bool) (cs : List (Call K)) (b : Book K) (es : List (Event K)) → Run before es b → Run before (history before b es cs) (after before b cs)
goes_on before [] b es r = r
goes_on before (put x ∷ cs) b es r =
    goes_on before cs (after_put before b x) (put_of x (put_answer b) ∷ es) (then_put r (record { answer = refl; after = refl }))
goes_on before (take x ∷ cs) b es r =
    goes_on before cs (after_take before b x) (take_of x (take_answer before b x) ∷ es) (then_take r (record { answer = refl; after = refl }))

pub worked : WorkedExamples
worked = record {
  first_of_1 = refl;
  first_of_2 = refl;
  first_of_3 = refl;
  second_records = refl;
  second_of_1 = refl;
  second_puts = refl;
  second_takes = refl;
  runs = λ cs. goes_on by_number cs two_wide [] (from_opening (record { empty = refl; wide = omega arith }));
}
