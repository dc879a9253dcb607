-- Calls dealt out to seats, each to the seat of its place modulo how many there are: whatever order the seats make them in, they
-- come to what they come to one after the other.
use Rattle.ckpt_model.proofs.Names.{◌≡◌, ℕ, ◌+◌, ◌%◌, ◌<◌, ◌≤◌, Bool, false, eqb, List, [], ◌∷◌, map, refl, ap, inl, inr, arith, count_by, Some, filter, enumerate_from, cases_Bool, eqb-true, cases_lt}
use Rattle.ckpt_model.proofs.Names.{Call, Answer, IsIn, Record, IsIn-from_map, State, record_of, step, replay, answers, IsSound, of_seat, SameBySeat, ack_with, calls_of, first_completed}
use Rattle.ckpt_model.proofs.Names.{is_completing, SameOutcome, common_steps}
use Rattle.ckpt_model.proofs.Reordering.Rearranged.{as_often_by_seat, of_seat-map, of_seat-other}
use Rattle.ckpt_model.proofs.Reordering.Interleavings.{any_order, same_completed_by_seat}
use Rattle.ckpt_model.proofs.Reordering.MissingFiles.{new_files, missing_of, pending_record, apart_missing, are_missing}

-- a list with the seats to which its members are dealt out
abbrev pub dealt : {X : Type 0} → ℕ → List X → List (ℕ × X)
dealt seats xs = map (λ p. (p.0 % seats, p.1)) (enumerate_from 0 xs)

-- the members that are dealt out to one seat
abbrev pub dealt_out : {X : Type 0} → ℕ → ℕ → List X → List X
dealt_out seats seat xs = map (λ p. p.1) (filter (λ p. eqb (p.0 % seats) seat) (enumerate_from 0 xs))

values-enumerated : {X : Type 0} (seats place : ℕ) (xs : List X) → map (λ (x : ℕ × X). x.1) (map (λ (p : ℕ × X). (p.0 % seats, p.1)) (enumerate_from place xs)) ≡ xs
values-enumerated seats place [] = refl
values-enumerated seats place (x ∷ xs) = ap (λ ys. x ∷ ys) (values-enumerated seats (place + 1) xs)

pub values-dealt : {X : Type 0} (seats : ℕ) (xs : List X) → map (λ (x : ℕ × X). x.1) (dealt seats xs) ≡ xs
values-dealt seats xs = values-enumerated seats 0 xs

-- each seat is one of so many
abbrev pub SeatsFrom : {X : Type 0} → ℕ → List (ℕ × X) → Type 0
SeatsFrom {X} seats xs = (x : ℕ × X) → IsIn x xs → x.0 < seats

none-beyond : {X : Type 0} (seats seat : ℕ) (xs : List (ℕ × X)) → SeatsFrom seats xs → seats ≤ seat → of_seat seat xs ≡ []
none-beyond seats seat [] below beyond = refl
none-beyond {X} seats seat (x ∷ xs) below beyond =
    let its : x.0 < seats = below x (inl refl) in
    grind (arith, common_steps, eqb-true, cases_Bool, of_seat-other, none-beyond seats seat xs) steps 1000000

below-dealt : {X : Type 0} (seats : ℕ) (xs : List X) → 0 < seats → SeatsFrom seats (dealt seats xs)
below-dealt {X} seats xs some x h = grind (arith, common_steps, IsIn-from_map)

-- if each seat has what was dealt out to it
pub same_as_dealt : {X : Type 0} (seats : ℕ) (xs : List X) (made : List (ℕ × X)) → 0 < seats → SeatsFrom seats made → ((seat : ℕ) → seat < seats → of_seat seat made ≡ dealt_out seats seat xs)
    → SameBySeat (dealt seats xs) made
same_as_dealt seats xs made some below each seat = let its = of_seat-map (λ (p : ℕ × _). p.0 % seats) (λ (p : ℕ × _). p.1) seat (enumerate_from 0 xs) in
    let beyond = none-beyond seats seat (dealt seats xs) (below-dealt seats xs some) in
    grind (arith, common_steps, its, each seat, beyond, none-beyond seats seat made below, cases_lt seat seats)

-- the answers to calls that have their seats beside them
abbrev pub seated_answers : State → List (ℕ × Call) → List (ℕ × Answer)
seated_answers m [] = []
seated_answers m (x ∷ xs) = (x.0, (step m x.1).1) ∷ seated_answers (step m x.1).0 xs

pub values-seated : (m : State) (made : List (ℕ × Call)) → map (λ (x : ℕ × Answer). x.1) (seated_answers m made) ≡ answers m (calls_of made)
values-seated m [] = refl
values-seated m (x ∷ xs) = ap (λ ys. (step m x.1).1 ∷ ys) (values-seated (step m x.1).0 xs)

below-answers : (m : State) (seats : ℕ) (made : List (ℕ × Call)) → SeatsFrom seats made → SeatsFrom seats (seated_answers m made)
below-answers m seats [] below y h = absurd h
below-answers m seats (x ∷ xs) below y h = grind (arith, common_steps, below x, below-answers (step m x.1).0 seats xs (λ z k. below z (inr k)) y)

-- the acknowledgements of all missing subtasks, one after the other
abbrev pub all_missing : ℕ → ℕ → ℕ → Record → List Call
all_missing now id first r = map (ack_with now id) (new_files first 0 (missing_of r))

-- Calls that are dealt out to seats leave the same state in whatever order the seats make them. In the order of the calls, the
-- answers of the seats have the same counts.
pub record ComesToTheSame (m : State) (calls : List Call) (made : List (ℕ × Call)) (told : List Answer) : Type 0 where
  pub state : replay m calls ≡ replay m (calls_of made)
  pub as_often : (asked : Answer → Bool) → count_by asked (answers m calls) ≡ count_by asked told
  pub completed : first_completed (answers m calls) ≡ first_completed told

pub dealt_calls : (m : State) (now id first seats : ℕ) (r : Record) (made : List (ℕ × Call)) (told : List Answer) → IsSound m → record_of m id ≡ Some r → r.done ≡ false → 0 < seats
    → SeatsFrom seats made → ((seat : ℕ) → seat < seats → of_seat seat made ≡ dealt_out seats seat (all_missing now id first r))
    → ((seat : ℕ) → seat < seats → of_seat seat (seated_answers m made) ≡ dealt_out seats seat told) → ComesToTheSame m (all_missing now id first r) made told
dealt_calls m now id first seats r made told s found pending some below calls_are answers_are =
    let calls : List Call = all_missing now id first r in
    let law : SameOutcome m calls (calls_of made) =
    rw (← values-dealt seats calls)
    (any_order m now id r (new_files first 0 (missing_of r)) (dealt seats calls) made s (pending_record m id r found pending) (are_missing first r) (apart_missing first r) (values-dealt seats calls)
    (same_as_dealt seats calls made some below calls_are)) in
    let by_seat : SameBySeat (dealt seats told) (seated_answers m made) = same_as_dealt seats told (seated_answers m made) some (below-answers m seats made below) answers_are in
    let tell : (asked : Answer → Bool) → count_by asked (answers m (calls_of made)) ≡ count_by asked told = λ asked.
    grind (arith, common_steps, values-seated m made, as_often_by_seat (dealt seats told) (seated_answers m made) by_seat asked, values-dealt seats told) in
    let once : count_by is_completing (map (λ (x : ℕ × Answer). x.1) (dealt seats told)) ≤ 1 = grind (arith, common_steps, law.once, law.as_often, tell, values-dealt seats told) in
    let first_told = same_completed_by_seat (dealt seats told) (seated_answers m made) by_seat once in
    grind (arith, common_steps, law.as_often, tell, values-seated m made, values-dealt seats told) steps 1000000
