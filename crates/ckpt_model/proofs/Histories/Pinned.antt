-- An acknowledgement for a pending record that reuses only files of the choice at its trigger is never refused FileGone.
use Rattle.ckpt_model.proofs.Names.{◌≡◌, ℕ, ◌<◌, Bool, false, not, ◌&&◌, eqb, List, [], ◌∷◌, refl, sym, ◌∙◌, ◌⊎◌, inl, inr, ⊎_elim, arith, find, Option, Some, both_ways, and_parts, not-true, eqb-true}
use Rattle.ckpt_model.proofs.Names.{SubtaskId, Call, Ack, Refusal, NameTaken, FileGone, IsIn, Record, uses, is_present, State, Opening, opened, is_pending, choice_of, chosen, files_of, pins_now}
use Rattle.ckpt_model.proofs.Names.{refusal, refuse_if, first_some, pending_of, is_foreign, is_repeat, named, where_pending, step, replay, IsSound, IsCall, CanOpen, AreCalls, given_by, Pinned}
use Rattle.ckpt_model.proofs.Names.{common_steps}
use Rattle.ckpt_model.proofs.Records.{IsIn-from_find, present-from_IsHeld}
use Rattle.ckpt_model.proofs.Histories.Moves.{IsMoved, IsTriggered, moved_from}
use Rattle.ckpt_model.proofs.Histories.Takings.{taken_from, taken_id}
use Rattle.ckpt_model.proofs.Stepping.Changes.{IsTakenBy, passed_moves}
use Rattle.ckpt_model.proofs.Stepping.Walk.{step_is}
use Rattle.ckpt_model.proofs.Histories.Numbers.{step_gives, next_rises}
use Rattle.ckpt_model.proofs.Soundness.Calls.{step_keeps}
use Rattle.ckpt_model.proofs.Soundness.Histories.{replay_is_sound}

-- a pending record of this number has these pins
pub record HasPins (m : State) (number : ℕ) (pins : List ℕ) : Type 0 where
  pub given : number < m.next
  pub has : (y : Record) → IsIn y m.records → y.id ≡ number → y.done ≡ false → y.pins ≡ pins

-- what a step leaves of the pending records: they were there with their pins, or were triggered
abbrev pub Came : State → List Record → Type 0
Came m after = (y : Record) → IsIn y after → y.done ≡ false → ((x : Record) × IsIn x m.records × (x.done ≡ false) × (y.id ≡ x.id) × (y.pins ≡ x.pins)) ⊎ IsTriggered m y

-- if the step drops some and triggers some
moved_came : {m : State} {d : Option ℕ} {after : List Record} → IsMoved m d after → Came m after
moved_came {m} i y h e = ⊎_elim (λ (k : IsIn y m.records). inl (y, k, e, refl, refl)) (λ (k : IsTriggered m y). inr k) (moved_from i y h)

-- each call
pub step_came : (m : State) (call : Call) → IsSound m → Came m (step m call).0.records
step_came m (Ack now id subtask fresh reused) s y h e =
    let taken : IsTakenBy m id subtask fresh reused (step m (Ack now id subtask fresh reused)) → _ = λ i. grind (arith, common_steps, taken_id i.taken, taken_from i.taken y h) steps 1000000 in
    ⊎_elim (λ i. moved_came (passed_moves i) y h e) taken ((step_is m (Ack now id subtask fresh reused)).records s)
step_came m call s y h e = moved_came ((step_is m call).records s) y h e

-- the pins stay as long as the record is pending: through one call
step_has_pins : (m : State) (call : Call) (number : ℕ) (pins : List ℕ) → IsSound m → HasPins m number pins → HasPins (step m call).0 number pins
step_has_pins m call number pins s p = record {
  given = omega (arith, p.given, next_rises m call);
  has = λ y h e pending. ⊎_elim (λ k. k.4 ∙ p.has k.0 k.1 (sym k.3 ∙ e) k.2) (λ (k : IsTriggered m y). absurd (omega (arith, p.given, k.id))) (step_came m call s y h pending);
}

-- and through a list of calls
has_pins_along : (m : State) (calls : List Call) (number : ℕ) (pins : List ℕ) → IsSound m → AreCalls calls → HasPins m number pins → HasPins (replay m calls) number pins
has_pins_along m [] number pins s c p = p
has_pins_along m (call ∷ calls) number pins s c p = has_pins_along (step m call).0 calls number pins (step_keeps m call c.0 s) c.1 (step_has_pins m call number pins s p)

-- the number that a call gives is the next one
pub given_is_next : (m : State) (call : Call) (number : ℕ) → given_by m call ≡ number ∷ [] → (number ≡ m.next) × (number < ((step m call).0).next)
given_is_next m call number e = grind (arith, common_steps, step_gives)

-- the record that a call triggers pins the files of the choice
has_pins_first : (m : State) (call : Call) (number : ℕ) → IsSound m → given_by m call ≡ number ∷ [] → HasPins (step m call).0 number (pins_now m)
has_pins_first m call number s e =
    let g = given_is_next m call number e in
    record { given = g.1; has = λ y h k pending. ⊎_elim (λ o. absurd (omega (arith, g.0, s.records.below_next o.0 o.1, o.3))) (λ (o : IsTriggered m y). o.pins) (step_came m call s y h pending) }

-- if the row that decides is FileGone

-- the row that decides is the first or a later one
this_or_later : (row : Option Refusal) (rows : List (Option Refusal)) (why : Refusal) → first_some (row ∷ rows) ≡ Some why → (row ≡ Some why) ⊎ (first_some rows ≡ Some why)
this_or_later row rows why h3 = grind (arith, common_steps)

-- a row of another refusal does not decide it
this_is_other : (b : Bool) (other why : Refusal) → (other ≡ why → ⊥) → refuse_if b other ≡ Some why → ⊥
this_is_other b other why h3 h4 = grind (arith, common_steps)

-- nor does UnknownSubtask
foreign_is_other : (o : Option Record) (s : SubtaskId) (f : ℕ) → is_foreign o s ≡ Some (FileGone f) → ⊥
foreign_is_other o s f h3 = grind (arith, common_steps, this_is_other)

-- nor AlreadyAcknowledged
repeat_is_other : (o : Option Record) (s : SubtaskId) (f : ℕ) → is_repeat o s ≡ Some (FileGone f) → ⊥
repeat_is_other o s f h3 = grind (arith, common_steps, this_is_other)

-- nor NameTaken
taken_is_other : (o : Option Record) (x : Option ℕ) (f : ℕ) → where_pending o (named NameTaken x) ≡ Some (FileGone f) → ⊥
taken_is_other o x f h3 = grind (arith, common_steps)

-- the row of FileGone names the file that it found
file_gone_is : (o : Option Record) (x : Option ℕ) (f : ℕ) → where_pending o (named FileGone x) ≡ Some (FileGone f) → (r : Record) × (o ≡ Some r) × (x ≡ Some f)
file_gone_is o x f h3 = grind (arith, common_steps)

-- of a call that is refused FileGone the record is pending, and the file is one that it reuses and is not present
pub file_gone_found : (m : State) (now id : ℕ) (subtask : SubtaskId) (fresh reused : List ℕ) (f : ℕ) → refusal m (Ack now id subtask fresh reused) ≡ Some (FileGone f)
    → (r : Record) × (pending_of m.records id ≡ Some r) × IsIn f reused × (is_present (uses m.records) f ≡ false)
unfolding refusal
file_gone_found m now id subtask fresh reused f h =
    let gone : ℕ → Bool = λ g. not (is_present (uses m.records) g) in
    let q : (r : Record) × (pending_of m.records id ≡ Some r) × (find gone reused ≡ Some f) =
    grind (arith, common_steps, this_or_later, this_is_other, foreign_is_other, repeat_is_other, taken_is_other, file_gone_is) steps 1000000 in
    let i = IsIn-from_find gone f reused q.2 in
    (q.0, q.1, i.0, not-true (is_present (uses m.records) f) i.1)

-- what a new record pins are the files of the choice
pins_are : (m : State) → pins_now m ≡ files_of (chosen (choice_of m) m)
unfolding pins_now
pins_are m = refl

-- after a call that gives a number, from any sound state
pub pinned_from : (m : State) (call : Call) (calls : List Call) → IsSound m → IsCall call → AreCalls calls → (id now : ℕ) (subtask : SubtaskId) (fresh reused : List ℕ) (f : ℕ) → given_by m call ≡ id ∷ []
    → ((g : ℕ) → IsIn g reused → IsIn g (files_of (chosen (choice_of m) m))) → refusal (replay (step m call).0 calls) (Ack now id subtask fresh reused) ≡ Some (FileGone f) → ⊥
pinned_from m call calls s b d id now subtask fresh reused f given among h =
    let n : State = replay (step m call).0 calls in
    let p : HasPins n id (pins_now m) = has_pins_along (step m call).0 calls id (pins_now m) (step_keeps m call b s) d (has_pins_first m call id s given) in
    let g = file_gone_found n now id subtask fresh reused f h in
    let i = IsIn-from_find (λ x. is_pending x && eqb x.id id) g.0 n.records g.1 in
    let parts = and_parts (is_pending g.0) (eqb (g.0).id id) i.1 in
    let held : IsIn f (g.0).pins = rw ((p.has g.0 i.0 (eqb-true (g.0).id id parts.1) (not-true (g.0).done parts.0)) ∙ pins_are m) (among f g.2) in
    both_ways (is_present (uses n.records) f) g.3 (present-from_IsHeld f n.records (g.0, i.0, inr held))

-- the law
pub pinned : (o : Opening) (before : List Call) (call : Call) (calls : List Call) → CanOpen o → AreCalls before → IsCall call → AreCalls calls → Pinned o before call calls
pinned o before call calls c a b d = pinned_from (replay (opened o) before) call calls (replay_is_sound o before c a) b d
