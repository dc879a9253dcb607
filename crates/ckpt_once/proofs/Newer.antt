-- A done checkpoint is dropped for newer ones only, unless a call goes back.
use Rattle.ckpt_once.proofs.Names.{◌≡◌, ℕ, ◌≤◌, ◌<◌, Bool, true, false, ◌&&◌, nat_lt, nat_le, List, ◌∷◌, ◌∙◌, refl, ap, arith, if◌then◌else◌, find, inl, inr, Option, Some, None, []}
use Rattle.ckpt_once.proofs.Names.{common_steps, ◌==◌, Call, Ack, Restore, Cancel, Configure, IsIn, Record, IsIn-from_counted, list_any-from_IsIn, State, choice_of, is_checkpoint}
use Rattle.ckpt_once.proofs.Names.{is_done_checkpoint, Stepped, AreCalls, Part, ack_of, IsCall, IsSound, TakesNewest, has_done_checkpoint, is_accepted, may_drop, newer_than, is_completing}
use Rattle.ckpt_once.proofs.Names.{configures_now, keeps, leaves_done, takes_newest, step_keeps, ChoiceIsNoOlder, NoneGoesBack, goes_back}
use Rattle.ckpt_ids.specs.declared.call.Target.TheVariants as target
use Rattle.ckpt_ids.specs.declared.reply.Choice.TheVariants as choice
use Rattle.ckpt_model.specs.Steps.{step}
use Rattle.ckpt_model.specs.Histories.{replay}

-- a done checkpoint that is no older is live
abbrev HasNoOlder : ℕ → State → Type 0
HasNoOlder id m = (r : Record) × IsIn r m.records × (is_done_checkpoint r ≡ true) × (id ≤ r.id)

both_true : (a b : Bool) → (a && b) ≡ true → (a ≡ true) × (b ≡ true)
both_true true b e = (refl, e)
both_true false b e = grind (arith, common_steps)

at_most : (m n : ℕ) → nat_le m n ≡ true → m ≤ n
at_most m n e = grind (arith, common_steps)

below : (m n : ℕ) → nat_lt m n ≡ true → m < n
below m n e = grind (arith, common_steps)

-- of what a completion leaves, as many are newer as are retained
completion_leaves_newer : (id : ℕ) (m : State) (h : HasNoOlder id m) (x : Stepped) → IsSound m → (is_completing x.1 && nat_le m.opening.config.retained (newer_than h.0.id x.0)) ≡ true → HasNoOlder id x.0
completion_leaves_newer id m h x s e = grind (arith, common_steps, IsIn-from_counted, at_most, below, both_true, nat_le, nat_lt)

pub same_choice : (m n : ℕ) → choice.Checkpoint m ≡ choice.Checkpoint n → m ≡ n
same_choice m n e = grind (arith, common_steps)

no_savepoint : (m n : ℕ) → choice.Savepoint m ≡ choice.Checkpoint n → ⊥
no_savepoint m n e = grind (arith, common_steps)

-- a checkpoint that is the choice is live
live_by : (id n : ℕ) (m : State) (b : Bool) (base : Option ℕ) → has_done_checkpoint m ≡ b → m.base ≡ base → TakesNewest m → choice_of m ≡ choice.Checkpoint n → id ≤ n → HasNoOlder id m
live_by id n m true base done at takes chosen up = grind (arith, common_steps)
live_by id n m false (Some s) done at takes chosen up = grind (arith, common_steps)
live_by id n m false None done at takes chosen up = grind (arith, common_steps)

-- a call that may drop a checkpoint, and does not go back, leaves one that is no older
leaves_one : (id : ℕ) (m : State) (call : Call) (h : HasNoOlder id m) → IsCall call → IsSound m → goes_back m call ≡ false → may_drop h.0.id m call ≡ true → HasNoOlder id (step m call).0
leaves_one id m (Restore now (target.Savepoint s) shape) h are sound back e = absurd (grind (arith, common_steps))
leaves_one id m (Cancel now) h are sound back e = absurd (grind (arith, common_steps))
leaves_one id m (Ack now s subtask fresh reused) h are sound back e = completion_leaves_newer id m h (step m (Ack now s subtask fresh reused)) sound e
leaves_one id m (Configure now config) h are sound back e =
    let x : Stepped = step m (Configure now config) in
    let accepted : is_accepted x.1 ≡ true = (both_true (is_accepted x.1) (nat_le config.retained (newer_than h.0.id m)) e).0 in
    let newest = (takes_newest m sound).checkpoint (list_any-from_IsIn is_done_checkpoint h.0 m.records h.1 h.2) in
    let up : h.0.id ≤ newest.0.id = newest.1.greatest h.0 h.1 h.2 in
    let from : id ≤ h.0.id = h.3 in
    let stays : choice_of x.0 ≡ choice_of m = (configures_now m now config sound are accepted).choice in
    live_by id newest.0.id x.0 (has_done_checkpoint x.0) x.0.base refl refl (takes_newest x.0 (step_keeps m (Configure now config) are sound)) (stays ∙ newest.2) (omega (arith, up, from))
leaves_one id m call h are sound back e = absurd (grind (arith, common_steps))

one_call_by : (id : ℕ) (m : State) (call : Call) (h : HasNoOlder id m) (b : Bool) → may_drop h.0.id m call ≡ b → IsCall call → IsSound m → goes_back m call ≡ false → HasNoOlder id (step m call).0
one_call_by id m call h false e are s back = (h.0, keeps m call s h.0 h.1 h.2 e, h.2, h.3)
one_call_by id m call h true e are s back = leaves_one id m call h are s back e

all_calls : (id : ℕ) (m : State) (calls : List Call) → IsSound m → AreCalls calls → NoneGoesBack m calls → HasNoOlder id m → HasNoOlder id (replay m calls)
all_calls id m [] s are back h = h
all_calls id m (call ∷ calls) s are back h =
    all_calls id (step m call).0 calls (step_keeps m call are.0 s) are.1 back.1 (one_call_by id m call h (may_drop h.0.id m call) refl are.0 s back.0)

-- what is found is in the list, and passes the test
found_by : {X : Type 0} (p : X → Bool) (x y : X) (xs : List X) (b : Bool) → p x ≡ b → (if b then Some x else find p xs) ≡ Some y → (find p xs ≡ Some y → IsIn y xs × (p y ≡ true)) → IsIn y (x ∷ xs) × (p y ≡ true)
found_by p x y xs true e f later = let same : y ≡ x = grind (arith, common_steps, f) in (inl same, ap p same ∙ e)
found_by p x y xs false e f later = let k = later f in (inr k.0, k.1)

pub found_in : {X : Type 0} (p : X → Bool) (xs : List X) (y : X) → find p xs ≡ Some y → IsIn y xs × (p y ≡ true)
found_in p [] y e = absurd (grind (arith, common_steps))
found_in p (x ∷ xs) y e = found_by p x y xs (p x) refl e (found_in p xs y)

same_number : (m n : ℕ) → (m == n) ≡ true → n ≤ m
same_number m n e = grind (arith, common_steps)

chosen_no_older : (id : ℕ) (m : State) → IsSound m → HasNoOlder id m → (newest : ℕ) × (choice_of m ≡ choice.Checkpoint newest) × (id ≤ newest)
chosen_no_older id m s h =
    let newest = (takes_newest m s).checkpoint (list_any-from_IsIn is_done_checkpoint h.0 m.records h.1 h.2) in
    let up : h.0.id ≤ newest.0.id = newest.1.greatest h.0 h.1 h.2 in
    let from : id ≤ h.0.id = h.3 in
    (newest.0.id, newest.2, omega (arith, up, from))

pub choice_is_no_older : (m : State) (now id : ℕ) (p : Part) (calls : List Call) → ChoiceIsNoOlder m now id p calls
choice_is_no_older m now id p calls s are completing checkpoint back =
    let x : Stepped = step m (ack_of now id p) in
    let sound : IsSound x.0 = step_keeps m (ack_of now id p) are.0 s in
    let left = leaves_done m now id p s completing in
    let at = found_in (λ r. r.id == id) x.0.records left.0 left.1 in
    let done : is_done_checkpoint left.0 ≡ true = ap (λ b. b && is_checkpoint left.0) left.2 ∙ checkpoint left.0 left.1 in
    let h : HasNoOlder id (replay x.0 calls) = all_calls id x.0 calls sound are.1 back (left.0, at.0, done, same_number left.0.id id at.1) in
    chosen_no_older id (replay x.0 calls) (sound_after x.0 calls sound are.1) h
  where
    sound_after : (n : State) (rest : List Call) → IsSound n → AreCalls rest → IsSound (replay n rest)
    sound_after n [] k a = k
    sound_after n (call ∷ rest) k a = sound_after (step n call).0 rest (step_keeps n call a.0 k) a.1
