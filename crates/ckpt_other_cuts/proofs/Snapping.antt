-- A recorder's snapshots are for records with rising numbers, and a record that is whole was snapped.
use Rattle.ckpt_other_cuts.proofs.Names.{◌≡◌, ℕ, ◌<◌, ◌≤◌, Bool, true, false, List, [], ◌∷◌, ◌++◌, ◌∙◌, refl, sym, ap, subst, arith, inl, inr, ⊎_elim, ◌&&◌, ◌==◌, ◌⊎◌, Option, Some, None}
use Rattle.ckpt_other_cuts.proofs.Names.{Result, Ok, if◌then◌else◌, nat_lt, not, slice_get, list_any, and_parts, common_steps, none-some, same_Some, IsIn, Refusal, Input, Open, Held, Ended}
use Rattle.ckpt_other_cuts.proofs.Names.{is_open, Element, Barrier, End, with_one, Answer, Process, Hold, Nothing, Wait, Late, Snap, Abandon, Phase, Recorder, begun, delivered, ended}
use Rattle.ckpt_other_cuts.proofs.Names.{is_idle, is_late, is_recording, opened, overtaken, with_input, Stepped, barrier, element, give_up, if_open, is_free_for, overtake, settled, step}
use Rattle.ckpt_other_cuts.proofs.Names.{whole, Reads, Overtakes, Sends, done, snap_as, whole_as, HasPart, snaps_said}
use Rattle.ckpt_unaligned.specs.declared.answer.Answer.TheVariants.{Record}
use Rattle.ckpt_unaligned.specs.declared.answer.Phase.TheVariants as phase
use Rattle.ckpt_unaligned.specs.Histories.{Action, GivesUp, Ends, after, answer_to, replay}
use Rattle.ckpt_unaligned.specs.Laws.{Task}

-- what a recorder's later snapshots are above
abbrev Above : Phase → ℕ → ℕ → Type 0
Above phase.Idle m n = n ≤ m
Above phase.Aligning m n = n < m
Above phase.Recording m n = n ≤ m

idle_above : (p : Phase) (m n : ℕ) → Above p m n → n ≤ m
idle_above phase.Idle m n h = h
idle_above phase.Aligning m n h = omega arith
idle_above phase.Recording m n h = h

none_some : {X : Type 0} (o : Option ℕ) (k : ℕ) → o ≡ None → o ≡ Some k → X
none_some o k e f = absurd (none-some k (sym e ∙ f))

-- ONE STEP

record Keeps (r : Recorder) (s : Stepped) : Type 0 where
  stays : (n : ℕ) → Above r.phase r.latest n → Above s.0.phase s.0.latest n
  rises : (n k : ℕ) → Above r.phase r.latest n → snap_as s.1 ≡ Some k → n < k
  begins : (k : ℕ) → snap_as s.1 ≡ Some k → Above s.0.phase s.0.latest k
  records : is_recording s.0.phase ≡ true → (snap_as s.1 ≡ Some s.0.latest) ⊎ ((is_recording r.phase ≡ true) × (r.latest ≡ s.0.latest))
  wholes : (k : ℕ) → whole_as s.1 ≡ Some k → (snap_as s.1 ≡ Some k) ⊎ ((is_recording r.phase ≡ true) × (r.latest ≡ k))

-- nothing is taken and nothing is whole
quiet : (r d : Recorder) (answer : Result Answer Refusal) → ((n : ℕ) → Above r.phase r.latest n → Above d.phase d.latest n)
    → (is_recording d.phase ≡ true → (is_recording r.phase ≡ true) × (r.latest ≡ d.latest)) → snap_as answer ≡ None → whole_as answer ≡ None → Keeps r (d, answer)
quiet r d answer stays same e f = record {
  stays = stays;
  rises = λ n k h g. none_some (snap_as answer) k e g;
  begins = λ k g. none_some (snap_as answer) k e g;
  records = λ is. inr (same is);
  wholes = λ k g. none_some (whole_as answer) k f g;
}

unchanged : (r : Recorder) (answer : Result Answer Refusal) → snap_as answer ≡ None → whole_as answer ≡ None → Keeps r (r, answer)
unchanged r answer e f = quiet r r answer (λ n h. h) (λ is. (is, refl)) e f

abandons : (r : Recorder) (n : ℕ) → Keeps r (ended r, Ok (Abandon n))
abandons r n = quiet r (ended r) (Ok (Abandon n)) (λ k h. idle_above r.phase r.latest k h) (λ is. absurd (grind (arith, common_steps))) refl refl

-- what comes before a record may be whole
record Moved (r d : Recorder) : Type 0 where
  stays : (n : ℕ) → Above r.phase r.latest n → Above d.phase d.latest n
  same : is_recording d.phase ≡ true → (is_recording r.phase ≡ true) × (r.latest ≡ d.latest)

whole_keeps : (r d : Recorder) (p : Phase) → d.phase ≡ p → is_idle p ≡ false → Moved r d → Keeps r (ended d, Ok (whole p d.latest))
whole_keeps r d phase.Idle e busy moved = absurd (grind (arith, common_steps))
whole_keeps r d phase.Aligning e busy moved = record {
  stays = λ n h. idle_above d.phase d.latest n (moved.stays n h);
  rises = λ n k h g.
      let At : Phase → Type 0 = λ q. Above q d.latest n in
      let below : n < d.latest = subst At e (moved.stays n h) in
      let is : d.latest ≡ k = same_Some d.latest k g in
      subst (λ (j : ℕ). n < j) is below;
  begins = λ k g. let is : d.latest ≡ k = same_Some d.latest k g in omega arith;
  records = λ is. absurd (grind (arith, common_steps));
  wholes = λ k g. inl g;
}
whole_keeps r d phase.Recording e busy moved = record {
  stays = λ n h. idle_above d.phase d.latest n (moved.stays n h);
  rises = λ n k h g. none_some None k refl g;
  begins = λ k g. none_some None k refl g;
  records = λ is. absurd (grind (arith, common_steps));
  wholes = λ k g. let was = moved.same (ap is_recording e) in inr (was.0, was.1 ∙ same_Some d.latest k g);
}

settled_by_keeps : (r d : Recorder) (idle left : Bool) → is_idle d.phase ≡ idle → Moved r d → Keeps r (if idle then (d, Ok Nothing) else (if left then (d, Ok Wait) else (ended d, Ok (whole d.phase d.latest))))
settled_by_keeps r d true left e moved = quiet r d (Ok Nothing) moved.stays moved.same refl refl
settled_by_keeps r d false true e moved = quiet r d (Ok Wait) moved.stays moved.same refl refl
settled_by_keeps r d false false e moved = whole_keeps r d d.phase refl e moved

settled_keeps : (r d : Recorder) → Moved r d → Keeps r (settled d)
unfolding settled
settled_keeps r d moved = settled_by_keeps r d (is_idle d.phase) (list_any is_open d.inputs) refl moved

-- a barrier that is not late, and of no later record than one that is open
abbrev Follows : Phase → ℕ → ℕ → Type 0
Follows phase.Idle m n = m < n
Follows phase.Aligning m n = n ≡ m
Follows phase.Recording m n = n ≡ m

delivered_stays : (p : Phase) (m n k : ℕ) → Follows p m n → Above p m k → Above (begun p) n k
delivered_stays phase.Idle m n k h a = omega arith
delivered_stays phase.Aligning m n k h a = omega arith
delivered_stays phase.Recording m n k h a = omega arith

delivered_same : (p : Phase) (m n : ℕ) → Follows p m n → is_recording (begun p) ≡ true → (is_recording p ≡ true) × (m ≡ n)
delivered_same phase.Idle m n h is = absurd (grind (arith, common_steps))
delivered_same phase.Aligning m n h is = absurd (grind (arith, common_steps))
delivered_same phase.Recording m n h is = (refl, sym h)

fits_by : (r : Recorder) (p : Phase) (n : ℕ) → r.phase ≡ p → is_late r n ≡ false → (not (is_idle r.phase) && nat_lt r.latest n) ≡ false → Follows p r.latest n
fits_by r phase.Idle n e l above = grind (arith, common_steps)
fits_by r phase.Aligning n e l above = grind (arith, common_steps)
fits_by r phase.Recording n e l above = grind (arith, common_steps)

barrier_by_keeps : (r : Recorder) (i n : ℕ) (late above : Bool) → is_late r n ≡ late → (not (is_idle r.phase) && nat_lt r.latest n) ≡ above
    → Keeps r (if late then (r, Ok Late) else (if above then (ended r, Ok (Abandon r.latest)) else settled (delivered r i n)))
barrier_by_keeps r i n true above e f = unchanged r (Ok Late) refl refl
barrier_by_keeps r i n false true e f = abandons r r.latest
barrier_by_keeps r i n false false e f =
    let fits = fits_by r r.phase n refl e f in
    settled_keeps r (delivered r i n) (record { stays = λ k h. delivered_stays r.phase r.latest n k fits h; same = λ is. delivered_same r.phase r.latest n fits is })

barrier_keeps : (r : Recorder) (i n : ℕ) → Keeps r (barrier r i n)
unfolding barrier
barrier_keeps r i n = barrier_by_keeps r i n (is_late r n) (not (is_idle r.phase) && nat_lt r.latest n) refl refl

element_by : (r : Recorder) (recording : Bool) (one other : Answer) → snap_as (Ok one) ≡ None → whole_as (Ok one) ≡ None → snap_as (Ok other) ≡ None → whole_as (Ok other) ≡ None → Keeps r (r, Ok (if recording then one else other))
element_by r true one other e f g h = unchanged r (Ok one) e f
element_by r false one other e f g h = unchanged r (Ok other) g h

element_keeps : (r : Recorder) (o : Option Input) → Keeps r (element r o)
element_keeps r None = unchanged r (element r None).1 refl refl
element_keeps r (Some Open) = element_by r (is_recording r.phase) Record Process refl refl refl refl
element_keeps r (Some Held) = element_by r (is_recording r.phase) Process Hold refl refl refl refl
element_keeps r (Some Ended) = unchanged r (element r (Some Ended)).1 refl refl

if_open_keeps : (r : Recorder) (o : Option Input) (s : Stepped) → Keeps r s → Keeps r (if_open r o s)
if_open_keeps r None s h = unchanged r (if_open r None s).1 refl refl
if_open_keeps r (Some Open) s h = h
if_open_keeps r (Some Held) s h = unchanged r (if_open r (Some Held) s).1 refl refl
if_open_keeps r (Some Ended) s h = unchanged r (if_open r (Some Ended) s).1 refl refl

abbrev NotLate : Phase → ℕ → ℕ → Type 0
NotLate phase.Idle m n = m < n
NotLate phase.Aligning m n = m ≤ n
NotLate phase.Recording m n = m ≤ n

overtaken_above : (p : Phase) (m n k : ℕ) → is_free_for p (n == m) ≡ true → NotLate p m n → Above p m k → k < n
overtaken_above phase.Idle m n k free h a = omega arith
overtaken_above phase.Aligning m n k free h a = grind (arith, common_steps)
overtaken_above phase.Recording m n k free h a = absurd (grind (arith, common_steps))

not_late : (r : Recorder) (p : Phase) (n : ℕ) → r.phase ≡ p → is_late r n ≡ false → NotLate p r.latest n
not_late r phase.Idle n e l = grind (arith, common_steps)
not_late r phase.Aligning n e l = grind (arith, common_steps)
not_late r phase.Recording n e l = grind (arith, common_steps)

overtake_by_keeps : (r : Recorder) (n : ℕ) (late free : Bool) → is_late r n ≡ late → (list_any is_open r.inputs && is_free_for r.phase (n == r.latest)) ≡ free
    → Keeps r (if late then (r, Ok Late) else (if free then (overtaken r n, Ok (Snap n)) else (r, Ok Nothing)))
overtake_by_keeps r n true free e f = unchanged r (Ok Late) refl refl
overtake_by_keeps r n false false e f = unchanged r (Ok Nothing) refl refl
overtake_by_keeps r n false true e f =
    let above : (k : ℕ) → Above r.phase r.latest k → k < n =
    λ k h. overtaken_above r.phase r.latest n k (and_parts (list_any is_open r.inputs) (is_free_for r.phase (n == r.latest)) f).1 (not_late r r.phase n refl e) h in
    record {
      stays = λ k h. let below : k < n = above k h in omega arith;
      rises = λ k j h g. subst (λ (i : ℕ). k < i) (same_Some n j g) (above k h);
      begins = λ k g. let is : n ≡ k = same_Some n k g in omega arith;
      records = λ is. inl refl;
      wholes = λ k g. none_some None k refl g;
    }

overtake_keeps : (r : Recorder) (n : ℕ) → Keeps r (overtake r n)
unfolding overtake
overtake_keeps r n = overtake_by_keeps r n (is_late r n) (list_any is_open r.inputs && is_free_for r.phase (n == r.latest)) refl refl

give_up_by_keeps : (r : Recorder) (n : ℕ) (is_now : Bool) → Keeps r (if is_now then (ended r, Ok (Abandon n)) else (r, Ok Nothing))
give_up_by_keeps r n true = abandons r n
give_up_by_keeps r n false = unchanged r (Ok Nothing) refl refl

give_up_keeps : (r : Recorder) (n : ℕ) → Keeps r (give_up r n)
unfolding give_up
give_up_keeps r n = give_up_by_keeps r n (not (is_idle r.phase) && (n == r.latest))

keeps : (r : Recorder) (action : Action) → Keeps r (done r action)
unfolding step
keeps r (Reads i (Element x)) = element_keeps r (slice_get r.inputs i)
keeps r (Reads i (Barrier n)) = if_open_keeps r (slice_get r.inputs i) (barrier r i n) (barrier_keeps r i n)
keeps r (Reads i End) = if_open_keeps r (slice_get r.inputs i) (settled (with_input r i Ended)) (settled_keeps r (with_input r i Ended) (record { stays = λ n h. h; same = λ is. (is, refl) }))
keeps r (Overtakes n) = overtake_keeps r n
keeps r (GivesUp n) = give_up_keeps r n
keeps r (Sends output x) = unchanged r (Ok Nothing) refl refl
keeps r Ends = unchanged r (Ok Nothing) refl refl

-- ALL STEPS

abbrev pub IsRising : List ℕ → Type 0
IsRising [] = Unit {0}
IsRising (x ∷ xs) = ((k : ℕ) → IsIn k xs → x < k) × IsRising xs

in_one : (o : Option ℕ) (rest : List ℕ) (k : ℕ) → IsIn k (with_one o rest) → (o ≡ Some k) ⊎ IsIn k rest
in_one None rest k h = inr h
in_one (Some x) rest k (inl e) = inl (ap Some (sym e))
in_one (Some x) rest k (inr h) = inr h

is_one : (o : Option ℕ) (rest : List ℕ) (k : ℕ) → o ≡ Some k → IsIn k (with_one o rest)
is_one None rest k e = none_some None k refl e
is_one (Some x) rest k e = inl (grind (arith, common_steps))

in_rest : (o : Option ℕ) (rest : List ℕ) (k : ℕ) → IsIn k rest → IsIn k (with_one o rest)
in_rest None rest k h = h
in_rest (Some x) rest k h = inr h

said_above : (n : ℕ) (r : Recorder) (actions : List Action) → Above r.phase r.latest n → (k : ℕ) → IsIn k (snaps_said r actions) → n < k
said_above n r [] above k h = absurd h
said_above n r (action ∷ actions) above k h =
    let one = keeps r action in
    ⊎_elim (λ e. one.rises n k above e) (λ in_later. said_above n (after r action) actions (one.stays n above) k in_later)
    (in_one (snap_as (answer_to r action)) (snaps_said (after r action) actions) k h)

rising-one : (o : Option ℕ) (rest : List ℕ) → ((x : ℕ) → o ≡ Some x → (k : ℕ) → IsIn k rest → x < k) → IsRising rest → IsRising (with_one o rest)
rising-one None rest above h = h
rising-one (Some x) rest above h = (above x refl, h)

pub said_rises : (r : Recorder) (actions : List Action) → IsRising (snaps_said r actions)
said_rises r [] = tt
said_rises r (action ∷ actions) =
    rising-one (snap_as (answer_to r action)) (snaps_said (after r action) actions)
    (λ x e k h. said_above x (after r action) actions ((keeps r action).begins x e) k h) (said_rises (after r action) actions)

abbrev IsRecordedBy : Recorder → ℕ → Type 0
IsRecordedBy r n = (is_recording r.phase ≡ true) × (r.latest ≡ n)

whole_said : (n : ℕ) (r : Recorder) (earlier : List Action) (action : Action) (later : List Action) → whole_as (answer_to (replay r earlier) action) ≡ Some n
    → IsIn n (snaps_said r (earlier ++ action ∷ later)) ⊎ IsRecordedBy r n
whole_said n r [] action later w =
    ⊎_elim (λ e. inl (is_one (snap_as (answer_to r action)) (snaps_said (after r action) later) n e)) (λ was. inr was) ((keeps r action).wholes n w)
whole_said n r (one ∷ earlier) action later w =
    let rest : List ℕ = snaps_said (after r one) (earlier ++ action ∷ later) in
    let snap : Option ℕ = snap_as (answer_to r one) in
    ⊎_elim (λ h. inl (in_rest snap rest n h))
    (λ (was : IsRecordedBy (after r one) n).
    ⊎_elim (λ e. inl (is_one snap rest n (e ∙ ap Some was.1))) (λ before. inr (before.0, before.1 ∙ was.1)) ((keeps r one).records was.0))
    (whole_said n (after r one) earlier action later w)

-- who has a part of a record has snapped it
pub part_was_said : (n : ℕ) (t : Task) → HasPart n t → IsIn n (snaps_said (opened t.inputs) t.actions)
part_was_said n t its =
    subst (λ (actions : List Action). IsIn n (snaps_said (opened t.inputs) actions)) (sym its.are_its)
    (⊎_elim (λ h. h) (λ was. absurd (not_yet was.0)) (whole_said n (opened t.inputs) its.earlier its.action its.later its.is_whole))
  where
    not_yet : is_recording phase.Idle ≡ true → ⊥
    not_yet e = grind (arith, common_steps)
