-- A sink that is told of records that it has cut cuts only greater ones afterwards.
use Rattle.std.proofs.lemmas.Grind.{common_steps}
use Rattle.std.proofs.Common.{arith, ◌≡◌, ℕ, ◌<◌, Bool, true, false, if◌then◌else◌, List, ◌∷◌, ◌++◌, Some, refl, sym, ap, append_assoc, []}
use Rattle.std.proofs.lemmas.Bool.{both_ways}
use Rattle.ckpt_align.specs.Alignment.{Alignment, opened}
use Rattle.ckpt_align.specs.Histories.{Action, Reads, GivesUp, Sends, Ends, after, cut_by, has_cut, is_number, replay}
use Rattle.ckpt_align.proofs.Carrying.{is_number-Some}
use Rattle.ckpt_align.proofs.GoingOn.{cuts_rise}
use Rattle.ckpt_once.proofs.ActionLemmas.{replay-append}
use Rattle.ckpt_ledger.specs.Ledgers.{Acts, HaveBeenCut, Moment, Told}

-- each record that is cut from here on is greater
abbrev pub CutsAbove : ℕ → Alignment → List Moment → Type 0
CutsAbove n a [] = Unit {0}
CutsAbove n a (Acts action ∷ moments) = ((m : ℕ) → cut_by a action ≡ Some m → n < m) × CutsAbove n (after a action) moments
CutsAbove n a (Told m ∷ moments) = CutsAbove n a moments

-- and so after each completed record
abbrev pub IsTimely : Alignment → List Moment → Type 0
IsTimely a [] = Unit {0}
IsTimely a (Acts action ∷ moments) = IsTimely (after a action) moments
IsTimely a (Told n ∷ moments) = CutsAbove n a moments × IsTimely a moments

-- where a record was cut
abbrev pub Found : ℕ → Alignment → List Action → Type 0
Found n a xs = (front : List Action) × (x : Action) × (back : List Action) × (xs ≡ front ++ x ∷ back) × (cut_by (replay a front) x ≡ Some n)

found_by : (n : ℕ) (a : Alignment) (y : Action) (ys : List Action) (is : Bool) → is_number n (cut_by a y) ≡ is → (if is then true else has_cut n (after a y) ys) ≡ true
    → (has_cut n (after a y) ys ≡ true → Found n (after a y) ys) → Found n a (y ∷ ys)
found_by n a y ys true e h rest = ([], y, ys, refl, is_number-Some n (cut_by a y) e)
found_by n a y ys false e h rest = let f : Found n (after a y) ys = rest h in (y ∷ f.0, f.1, f.2, ap (λ (zs : List Action). y ∷ zs) f.3, f.4)

pub found : (n : ℕ) (a : Alignment) (xs : List Action) → has_cut n a xs ≡ true → Found n a xs
found n a [] h = absurd (both_ways true (sym h) refl)
found n a (Ends ∷ ys) h = absurd (both_ways true (sym h) refl)
found n a (Reads i item ∷ ys) h = let y : Action = Reads i item in found_by n a y ys (is_number n (cut_by a y)) refl h (found n (after a y) ys)
found n a (GivesUp id ∷ ys) h = let y : Action = GivesUp id in found_by n a y ys (is_number n (cut_by a y)) refl h (found n (after a y) ys)
found n a (Sends o x ∷ ys) h = let y : Action = Sends o x in found_by n a y ys (is_number n (cut_by a y)) refl h (found n (after a y) ys)

cuts_above : (inputs : ℕ) (front : List Action) (x : Action) (back : List Action) (n : ℕ) → cut_by (replay (opened inputs) front) x ≡ Some n → (moments : List Moment)
    → CutsAbove n (replay (opened inputs) (front ++ x ∷ back)) moments
cuts_above inputs front x back n e [] = grind (arith, common_steps)
cuts_above inputs front x back n e (Acts y ∷ moments) = grind (arith, common_steps, append_assoc, cuts_rise, replay-append, cuts_above inputs front x (back ++ y ∷ []) n e moments)
cuts_above inputs front x back n e (Told m ∷ moments) = grind (arith, common_steps, cuts_above inputs front x back n e moments)

pub timely : (inputs : ℕ) (done : List Action) (moments : List Moment) → HaveBeenCut inputs done moments → IsTimely (replay (opened inputs) done) moments
timely inputs done [] h = grind (arith, common_steps)
timely inputs done (Acts x ∷ moments) h = grind (arith, common_steps, replay-append, timely inputs (done ++ x ∷ []) moments h)
timely inputs done (Told n ∷ moments) h = grind (arith, common_steps, cuts_above, found, timely inputs done moments h.1)
