-- A task's part of a record is what comes before the record's barrier on each input; and so parts and channels fit together.
use Rattle.ckpt_align.proofs.Names.{◌≡◌, ◌≢◌, ℕ, ◌<◌, Bool, true, false, ◌&&◌, List, [], ◌∷◌, ◌++◌, ◌∙◌, length, map, refl, sym, ap, subst, arith, cases_Bool, common_steps, append-nil, append_assoc, Option, Result, Ok, Some, None, slice_get, list_any}
use Rattle.ckpt_align.specs.declared.input.Input.{Input}
use Rattle.ckpt_align.specs.declared.input.Input.TheVariants.{Open, Held, Ended}
use Rattle.ckpt_align.proofs.Names.{is_open, released, Item, Element, Barrier, End, barriers, before, elements, event_of, is_number}
use Rattle.ckpt_align.proofs.InputLemmas.{any-get, length-replicate}
use Rattle.ckpt_align.proofs.Carrying.{before-its_barrier, before-other_barrier, elements-barriers}
use Rattle.ckpt_align.specs.declared.event.Refusal.{Refusal}
use Rattle.ckpt_align.specs.Laws.{Channel}
use Rattle.ckpt_ids.proofs.PlaceLemmas.{some_at}
use Rattle.ckpt_unaligned.specs.declared.answer.Answer.{Answer}
use Rattle.ckpt_unaligned.specs.declared.answer.Answer.TheVariants.{Process, Record, Hold, Nothing, Late, Cut, Snap, Complete, Abandon}
use Rattle.ckpt_unaligned.specs.declared.answer.Phase.{Phase}
use Rattle.ckpt_unaligned.specs.declared.answer.Phase.TheVariants as phase
use Rattle.ckpt_unaligned.specs.Recording.{Recorder, delivered, ended, is_idle, is_late, is_recording, opened, overtaken, with_input}
use Rattle.ckpt_unaligned.specs.Steps.{Stepped, barrier, element, give_up, if_open, is_free_for, overtake, settled, step, whole}
use Rattle.ckpt_unaligned.specs.Histories.{Action, Reads, Overtakes, GivesUp, Sends, Ends, Kept, after, answer_to, before_snap, is_record, is_snap, is_taken, kept, kept_by, kept_more, nothing_yet, part_as, replay, sent, sent_by, snap_as, taken, taken_by, whole_as}
use Rattle.ckpt_unaligned.specs.Laws.{GlobalPart, LocalPart, Network, Task}
use Rattle.ckpt_unaligned.proofs.Fitting.{Came, Fits, FitsAs, delivered_fits-other, delivered_fits-same, ended_fits, ends_fits-other, ends_fits-same, late_fits, opened_fits, overtaken_fits, pass_fits, process_fits, record_fits, settled_fits, late}
unfoldable use Rattle.ckpt_unaligned.proofs.Fitting.{settled_by}
use Rattle.std.specs.Prelude.{if◌then◌else◌, nat_lt, not, ◌==◌}
use Rattle.std.proofs.Common.{⊎_elim}
use Rattle.std.proofs.lemmas.Bool.Decides.{eqb_tells}
use Rattle.std.proofs.lemmas.List.{length-set, length-map}

-- a barrier, by its two tests

abbrev barrier_by : Recorder → ℕ → ℕ → Bool → Bool → Stepped
barrier_by r i n late above = if late then (r, Ok Late) else (if above then (ended r, Ok (Abandon r.latest)) else settled (delivered r i n))

above_not : (r : Recorder) (n : ℕ) → is_late r n ≡ false → (not (is_idle r.phase) && nat_lt r.latest n) ≡ false → is_idle r.phase ≡ false → n ≡ r.latest
above_not r n l e busy = grind (arith, common_steps)

-- what an answer to an item of this input takes and keeps

abbrev taken_one : Result Answer Refusal → Item → List Item
taken_one answer item = if is_taken answer then item ∷ [] else []

abbrev recorded_one : Result Answer Refusal → Item → List ℕ
recorded_one answer item = if is_record answer then elements (taken_one answer item) else []

-- after a step about this input
abbrev ReadsFit : ℕ → Stepped → Item → List ℕ → List ℕ → List Item → Type 0
ReadsFit i s item all part c = Fits i s.0 (all ++ elements (taken_one s.1 item)) (part ++ recorded_one s.1 item) (c ++ taken_one s.1 item)

unchanged : (i : ℕ) (r : Recorder) (all part : List ℕ) (c : List Item) → Fits i r all part c → Fits i r (all ++ []) (part ++ []) (c ++ [])
unchanged i r all part c h = rw (append-nil all, append-nil part, append-nil c) h

no_element : (i : ℕ) (r : Recorder) (all part : List ℕ) (c : List Item) → Fits i r all part c → Fits i r (all ++ []) (part ++ []) c
no_element i r all part c h = rw (append-nil all, append-nil part) h

not_recorded : (i : ℕ) (r : Recorder) (all part : List ℕ) (c : List Item) → Fits i r all part c → Fits i r all (part ++ []) c
not_recorded i r all part c h = rw (append-nil part) h

element_open : (i x : ℕ) (r : Recorder) (all part : List ℕ) (c : List Item) (recording : Bool) → is_recording r.phase ≡ recording → slice_get r.inputs i ≡ Some Open → Fits i r all part c
    → ReadsFit i (r, Ok (if recording then Record else Process)) (Element x) all part c
element_open i x r all part c true e at h = record_fits i x r all part c at e h
element_open i x r all part c false e at h = not_recorded i r (all ++ x ∷ []) part (c ++ Element x ∷ []) (process_fits i x r all part c at e h)

element_held : (i x : ℕ) (r : Recorder) (all part : List ℕ) (c : List Item) (recording : Bool) → is_recording r.phase ≡ recording → slice_get r.inputs i ≡ Some Held → Fits i r all part c
    → ReadsFit i (r, Ok (if recording then Process else Hold)) (Element x) all part c
element_held i x r all part c true e at h = not_recorded i r (all ++ x ∷ []) part (c ++ Element x ∷ []) (pass_fits i x r all part c at e h)
element_held i x r all part c false e at h = unchanged i r all part c h

element_fits : (i x : ℕ) (r : Recorder) (all part : List ℕ) (c : List Item) (o : Option Input) → slice_get r.inputs i ≡ o → Fits i r all part c → ReadsFit i (element r o) (Element x) all part c
element_fits i x r all part c None at h = unchanged i r all part c h
element_fits i x r all part c (Some Open) at h = element_open i x r all part c (is_recording r.phase) refl at h
element_fits i x r all part c (Some Held) at h = element_held i x r all part c (is_recording r.phase) refl at h
element_fits i x r all part c (Some Ended) at h = unchanged i r all part c h

if_open_fits : (i : ℕ) (item : Item) (r : Recorder) (all part : List ℕ) (c : List Item) (o : Option Input) (s : Stepped) → slice_get r.inputs i ≡ o → Fits i r all part c
    → (slice_get r.inputs i ≡ Some Open → ReadsFit i s item all part c) → ReadsFit i (if_open r o s) item all part c
if_open_fits i item r all part c None s at h goes = unchanged i r all part c h
if_open_fits i item r all part c (Some Open) s at h goes = goes at
if_open_fits i item r all part c (Some Held) s at h goes = unchanged i r all part c h
if_open_fits i item r all part c (Some Ended) s at h goes = unchanged i r all part c h

-- the answers of a record that may be whole

whole_taken : (p : Phase) (n : ℕ) → is_taken (Ok (whole p n)) ≡ true
whole_taken phase.Idle n = refl
whole_taken phase.Aligning n = refl
whole_taken phase.Recording n = refl

whole_no_record : (p : Phase) (n : ℕ) → is_record (Ok (whole p n)) ≡ false
whole_no_record phase.Idle n = refl
whole_no_record phase.Aligning n = refl
whole_no_record phase.Recording n = refl

settled_by_taken : (r : Recorder) (idle left : Bool) → is_taken (settled_by r idle left).1 ≡ true
unfolding settled_by
settled_by_taken r true left = refl
settled_by_taken r false true = refl
settled_by_taken r false false = whole_taken r.phase r.latest

settled_by_no_record : (r : Recorder) (idle left : Bool) → is_record (settled_by r idle left).1 ≡ false
unfolding settled_by
settled_by_no_record r true left = refl
settled_by_no_record r false true = refl
settled_by_no_record r false false = whole_no_record r.phase r.latest

settled_taken : (r : Recorder) → is_taken (settled r).1 ≡ true
unfolding settled settled_by
settled_taken r = settled_by_taken r (is_idle r.phase) (list_any is_open r.inputs)

settled_no_record : (r : Recorder) → is_record (settled r).1 ≡ false
unfolding settled settled_by
settled_no_record r = settled_by_no_record r (is_idle r.phase) (list_any is_open r.inputs)

-- a barrier or an end that is taken
takes_fit : (i : ℕ) (item : Item) (s : Stepped) (all part : List ℕ) (c : List Item) → is_taken s.1 ≡ true → is_record s.1 ≡ false → elements (item ∷ []) ≡ [] → Fits i s.0 all part (c ++ item ∷ []) → ReadsFit i s item all part c
takes_fit i item s all part c takes records none h = rw (takes, records) (rw none (no_element i s.0 all part (c ++ item ∷ []) h))

barrier_by_same : (i n : ℕ) (r : Recorder) (all part : List ℕ) (c : List Item) (l above : Bool) → is_late r n ≡ l → (not (is_idle r.phase) && nat_lt r.latest n) ≡ above → slice_get r.inputs i ≡ Some Open → Fits i r all part c
    → ReadsFit i (barrier_by r i n l above) (Barrier n) all part c
barrier_by_same i n r all part c true above e f at h = no_element i r all part (c ++ Barrier n ∷ []) (late_fits i n r all part c e at h)
barrier_by_same i n r all part c false true e f at h = unchanged i (ended r) all part c (ended_fits i r all part c h)
barrier_by_same i n r all part c false false e f at h =
    let d : Recorder = delivered r i n in
    takes_fit i (Barrier n) (settled d) all part c (settled_taken d) (settled_no_record d) refl
    (settled_fits i d all part (c ++ Barrier n ∷ []) (delivered_fits-same i n r all part c e (above_not r n e f) at h))

barrier_same : (i n : ℕ) (r : Recorder) (all part : List ℕ) (c : List Item) → slice_get r.inputs i ≡ Some Open → Fits i r all part c → ReadsFit i (barrier r i n) (Barrier n) all part c
unfolding barrier
barrier_same i n r all part c at h = barrier_by_same i n r all part c (is_late r n) (not (is_idle r.phase) && nat_lt r.latest n) refl refl at h

reads_same : (i : ℕ) (item : Item) (r : Recorder) (all part : List ℕ) (c : List Item) → Fits i r all part c → ReadsFit i (step r (event_of i item)) item all part c
unfolding step
reads_same i (Element x) r all part c h = element_fits i x r all part c (slice_get r.inputs i) refl h
reads_same i (Barrier n) r all part c h = if_open_fits i (Barrier n) r all part c (slice_get r.inputs i) (barrier r i n) refl h (λ at. barrier_same i n r all part c at h)
reads_same i End r all part c h =
    let d : Recorder = with_input r i Ended in
    if_open_fits i End r all part c (slice_get r.inputs i) (settled d) refl h
    (λ at. takes_fit i End (settled d) all part c (settled_taken d) (settled_no_record d) refl (settled_fits i d all part (c ++ End ∷ []) (ends_fits-same i r all part c at h)))

-- a step about another input

element_other : (r : Recorder) (o : Option Input) → (element r o).0 ≡ r
element_other r None = refl
element_other r (Some Open) = refl
element_other r (Some Held) = refl
element_other r (Some Ended) = refl

if_open_other : (j : ℕ) (r : Recorder) (all part : List ℕ) (c : List Item) (o : Option Input) (s : Stepped) → Fits j r all part c → Fits j s.0 all part c → Fits j (if_open r o s).0 all part c
if_open_other j r all part c None s h goes = h
if_open_other j r all part c (Some Open) s h goes = goes
if_open_other j r all part c (Some Held) s h goes = h
if_open_other j r all part c (Some Ended) s h goes = h

barrier_by_other : (i j n : ℕ) (r : Recorder) (all part : List ℕ) (c : List Item) (l above : Bool) → is_late r n ≡ l → (not (is_idle r.phase) && nat_lt r.latest n) ≡ above → i ≢ j → Fits j r all part c
    → Fits j (barrier_by r i n l above).0 all part c
barrier_by_other i j n r all part c true above e f other h = h
barrier_by_other i j n r all part c false true e f other h = ended_fits j r all part c h
barrier_by_other i j n r all part c false false e f other h = settled_fits j (delivered r i n) all part c (delivered_fits-other i j n r all part c other e (above_not r n e f) h)

barrier_other : (i j n : ℕ) (r : Recorder) (all part : List ℕ) (c : List Item) → i ≢ j → Fits j r all part c → Fits j (barrier r i n).0 all part c
unfolding barrier
barrier_other i j n r all part c other h = barrier_by_other i j n r all part c (is_late r n) (not (is_idle r.phase) && nat_lt r.latest n) refl refl other h

reads_other : (i j : ℕ) (item : Item) (r : Recorder) (all part : List ℕ) (c : List Item) → i ≢ j → Fits j r all part c → Fits j (step r (event_of i item)).0 all part c
unfolding step
reads_other i j (Element x) r all part c other h = let At : Recorder → Type 0 = λ q. Fits j q all part c in subst At (sym (element_other r (slice_get r.inputs i))) h
reads_other i j (Barrier n) r all part c other h = if_open_other j r all part c (slice_get r.inputs i) (barrier r i n) h (barrier_other i j n r all part c other h)
reads_other i j End r all part c other h =
    if_open_other j r all part c (slice_get r.inputs i) (settled (with_input r i Ended)) h (settled_fits j (with_input r i Ended) all part c (ends_fits-other i j r all part c other h))

-- each action

abbrev part : Kept → List ℕ
part k = k.in_snapshot ++ k.recorded

abbrev KeptFits : ℕ → Recorder → Kept → List Item → Type 0
KeptFits j r k c = Fits j r k.all (part k) c

same_test : (i : ℕ) → (i == i) ≡ true
same_test i = grind (arith, common_steps)

other_test : (i j : ℕ) → i ≢ j → (i == j) ≡ false
other_test i j other = grind (arith, common_steps)

-- what an item brings, by whether it is of this input
abbrev reads_by : Bool → Kept → Result Answer Refusal → Item → Kept
reads_by is k answer item = kept_more k (elements (if is && is_taken answer then item ∷ [] else [])) answer

read_fits-same : (j : ℕ) (item : Item) (r : Recorder) (k : Kept) (c : List Item) → KeptFits j r k c
    → KeptFits j (step r (event_of j item)).0 (reads_by true k (step r (event_of j item)).1 item) (c ++ taken_one (step r (event_of j item)).1 item)
read_fits-same j item r k c h =
    let answer : Result Answer Refusal = (step r (event_of j item)).1 in
    rw (sym (append_assoc k.in_snapshot k.recorded (recorded_one answer item))) (reads_same j item r k.all (part k) c h)

read_fits-other : (i j : ℕ) (item : Item) (r : Recorder) (k : Kept) (c : List Item) → i ≢ j → KeptFits j r k c
    → KeptFits j (step r (event_of i item)).0 (reads_by false k (step r (event_of i item)).1 item) (c ++ [])
read_fits-other i j item r k c other h = nothing_more (is_record (step r (event_of i item)).1)
  where
    nothing_more : (records : Bool) → Fits j (step r (event_of i item)).0 (k.all ++ []) (k.in_snapshot ++ (k.recorded ++ (if records then [] else []))) (c ++ [])
    nothing_more true = rw (append-nil k.all, append-nil k.recorded, append-nil c) (reads_other i j item r k.all (part k) c other h)
    nothing_more false = rw (append-nil k.all, append-nil k.recorded, append-nil c) (reads_other i j item r k.all (part k) c other h)

read_fits : (i j : ℕ) (item : Item) (r : Recorder) (k : Kept) (c : List Item) → KeptFits j r k c → KeptFits j (after r (Reads i item)) (kept_by j r k (Reads i item)) (c ++ taken_by j r (Reads i item))
read_fits i j item r k c h = ⊎_elim (λ e. same e.1) (λ e. other e.1) (eqb_tells i j)
  where
    Goal : ℕ → Type 0
    Goal m = KeptFits j (step r (event_of m item)).0 (reads_by (m == j) k (step r (event_of m item)).1 item) (c ++ (if (m == j) && is_taken (step r (event_of m item)).1 then item ∷ [] else []))

    same : i ≡ j → KeptFits j (after r (Reads i item)) (kept_by j r k (Reads i item)) (c ++ taken_by j r (Reads i item))
    same e = subst Goal (sym e) (rw (same_test j) (read_fits-same j item r k c h))

    other : i ≢ j → KeptFits j (after r (Reads i item)) (kept_by j r k (Reads i item)) (c ++ taken_by j r (Reads i item))
    other e = rw (other_test i j e) (read_fits-other i j item r k c e h)

unfoldable overtake_by : Recorder → ℕ → Bool → Bool → Stepped
overtake_by r n l free = if l then (r, Ok Late) else (if free then (overtaken r n, Ok (Snap n)) else (r, Ok Nothing))

and_second : (a b : Bool) → (a && b) ≡ true → b ≡ true
and_second true b e = e
and_second false b e = grind (arith, common_steps)

overtake_by_fits : (j n : ℕ) (r : Recorder) (k : Kept) (c : List Item) (l free : Bool) → is_late r n ≡ l → (list_any is_open r.inputs && is_free_for r.phase (n == r.latest)) ≡ free → KeptFits j r k c
    → KeptFits j (overtake_by r n l free).0 (if is_snap (overtake_by r n l free).1 then record { all = k.all; in_snapshot = k.all; recorded = [] } else k) (c ++ [])
unfolding overtake_by
overtake_by_fits j n r k c true free e f h = rw (append-nil c) h
overtake_by_fits j n r k c false false e f h = rw (append-nil c) h
overtake_by_fits j n r k c false true e f h = rw (append-nil c) (overtaken_fits j n r k.all (part k) c e (and_second (list_any is_open r.inputs) (is_free_for r.phase (n == r.latest)) f) h)

overtake_fits : (j n : ℕ) (r : Recorder) (k : Kept) (c : List Item) → KeptFits j r k c → KeptFits j (after r (Overtakes n)) (kept_by j r k (Overtakes n)) (c ++ [])
unfolding overtake overtake_by
overtake_fits j n r k c h = overtake_by_fits j n r k c (is_late r n) (list_any is_open r.inputs && is_free_for r.phase (n == r.latest)) refl refl h

unfoldable give_up_by : ℕ → Recorder → Bool → Stepped
give_up_by n r is_now = if is_now then (ended r, Ok (Abandon n)) else (r, Ok Nothing)

give_up_by_fits : (j n : ℕ) (r : Recorder) (all part : List ℕ) (c : List Item) (is_now : Bool) → Fits j r all part c → Fits j (give_up_by n r is_now).0 all part c
unfolding give_up_by
give_up_by_fits j n r all part c true h = ended_fits j r all part c h
give_up_by_fits j n r all part c false h = h

give_up_fits : (j n : ℕ) (r : Recorder) (k : Kept) (c : List Item) → KeptFits j r k c → KeptFits j (after r (GivesUp n)) k (c ++ [])
unfolding step give_up give_up_by
give_up_fits j n r k c h = rw (append-nil c) (give_up_by_fits j n r k.all (part k) c (not (is_idle r.phase) && (n == r.latest)) h)

pub action_fits : (j : ℕ) (r : Recorder) (k : Kept) (action : Action) (c : List Item) → KeptFits j r k c → KeptFits j (after r action) (kept_by j r k action) (c ++ taken_by j r action)
action_fits j r k (Reads i item) c h = read_fits i j item r k c h
action_fits j r k (Overtakes n) c h = overtake_fits j n r k c h
action_fits j r k (GivesUp n) c h = give_up_fits j n r k c h
action_fits j r k (Sends output x) c h = rw (append-nil c) h
action_fits j r k Ends c h = rw (append-nil c) h

-- once a record is whole

at_whole : (p : Phase) (m : ℕ) (k : Kept) (s : Input) (c : List Item) → is_idle p ≡ false → is_open s ≡ false → elements c ≡ k.all → FitsAs p m (part k) s c → Came m (part_as k (Ok (whole p m))) c
at_whole phase.Recording m k Held c busy shut e h = h.0
at_whole phase.Recording m k Ended c busy shut e h = h.1
at_whole phase.Recording m k Open c busy shut e h = grind (arith, common_steps)
at_whole phase.Aligning m k Held c busy shut e h = λ rest. h.0 rest ∙ e
at_whole phase.Aligning m k Ended c busy shut e h = λ rest. h.0 m (itself m) rest ∙ e
  where
    itself : (n : ℕ) → nat_lt n n ≡ false
    itself n = grind (arith, common_steps)
at_whole phase.Aligning m k Open c busy shut e h = grind (arith, common_steps)
at_whole phase.Idle m k s c busy shut e h = grind (arith, common_steps)

not_open : (xs : List Input) (j : ℕ) (s : Input) → list_any is_open xs ≡ false → slice_get xs j ≡ Some s → is_open s ≡ false
not_open xs j s none at = grind (arith, common_steps, any-get is_open xs j s at, cases_Bool (is_open s))

whole_number : (p : Phase) (m n : ℕ) → whole_as (Ok (whole p m)) ≡ Some n → n ≡ m
whole_number phase.Idle m n e = grind (arith, common_steps)
whole_number phase.Aligning m n e = grind (arith, common_steps)
whole_number phase.Recording m n e = grind (arith, common_steps)

settled_by_part : (j n : ℕ) (r : Recorder) (k : Kept) (c : List Item) (idle left : Bool) → is_idle r.phase ≡ idle → list_any is_open r.inputs ≡ left → KeptFits j r k c → j < length r.inputs → whole_as (settled_by r idle left).1 ≡ Some n
    → Came n (part_as k (settled_by r idle left).1) c
unfolding settled_by
settled_by_part j n r k c true left e f h within w = grind (arith, common_steps)
settled_by_part j n r k c false true e f h within w = grind (arith, common_steps)
settled_by_part j n r k c false false e f h within w =
    let its = some_at r.inputs j within in
    let At : ℕ → Type 0 = λ m. Came m (part_as k (Ok (whole r.phase r.latest))) c in
    subst At (sym (whole_number r.phase r.latest n w)) (at_whole r.phase r.latest k its.0 c e (not_open r.inputs j its.0 f its.1) h.is_all (h.fits its.0 its.1))

settled_part : (j n : ℕ) (r : Recorder) (k : Kept) (c : List Item) → KeptFits j r k c → j < length r.inputs → whole_as (settled r).1 ≡ Some n → Came n (part_as k (settled r).1) c
unfolding settled settled_by
settled_part j n r k c h within w = settled_by_part j n r k c (is_idle r.phase) (list_any is_open r.inputs) refl refl h within w

barrier_by_part-same : (i m n : ℕ) (r : Recorder) (k : Kept) (c : List Item) (l above : Bool) → is_late r m ≡ l → (not (is_idle r.phase) && nat_lt r.latest m) ≡ above → slice_get r.inputs i ≡ Some Open → KeptFits i r k c → i < length r.inputs
    → whole_as (barrier_by r i m l above).1 ≡ Some n → Came n (part_as k (barrier_by r i m l above).1) (c ++ Barrier m ∷ [])
barrier_by_part-same i m n r k c true above e f at h within w = grind (arith, common_steps)
barrier_by_part-same i m n r k c false true e f at h within w = grind (arith, common_steps)
barrier_by_part-same i m n r k c false false e f at h within w =
    settled_part i n (delivered r i m) k (c ++ Barrier m ∷ []) (delivered_fits-same i m r k.all (part k) c e (above_not r m e f) at h) (rw (length-set r.inputs i Held) within) w

barrier_part-same : (i m n : ℕ) (r : Recorder) (k : Kept) (c : List Item) → slice_get r.inputs i ≡ Some Open → KeptFits i r k c → i < length r.inputs → whole_as (barrier r i m).1 ≡ Some n → Came n (part_as k (barrier r i m).1) (c ++ Barrier m ∷ [])
unfolding barrier
barrier_part-same i m n r k c at h within w = barrier_by_part-same i m n r k c (is_late r m) (not (is_idle r.phase) && nat_lt r.latest m) refl refl at h within w

barrier_by_part-other : (i j m n : ℕ) (r : Recorder) (k : Kept) (c : List Item) (l above : Bool) → is_late r m ≡ l → (not (is_idle r.phase) && nat_lt r.latest m) ≡ above → i ≢ j → KeptFits j r k c → j < length r.inputs
    → whole_as (barrier_by r i m l above).1 ≡ Some n → Came n (part_as k (barrier_by r i m l above).1) c
barrier_by_part-other i j m n r k c true above e f other h within w = grind (arith, common_steps)
barrier_by_part-other i j m n r k c false true e f other h within w = grind (arith, common_steps)
barrier_by_part-other i j m n r k c false false e f other h within w =
    settled_part j n (delivered r i m) k c (delivered_fits-other i j m r k.all (part k) c other e (above_not r m e f) h) (rw (length-set r.inputs i Held) within) w

barrier_part-other : (i j m n : ℕ) (r : Recorder) (k : Kept) (c : List Item) → i ≢ j → KeptFits j r k c → j < length r.inputs → whole_as (barrier r i m).1 ≡ Some n → Came n (part_as k (barrier r i m).1) c
unfolding barrier
barrier_part-other i j m n r k c other h within w = barrier_by_part-other i j m n r k c (is_late r m) (not (is_idle r.phase) && nat_lt r.latest m) refl refl other h within w

-- an element makes no record whole, and only an open input does
element_not_whole : (r : Recorder) (o : Option Input) (n : ℕ) → whole_as (element r o).1 ≡ Some n → ⊥
element_not_whole r None n w = grind (arith, common_steps)
element_not_whole r (Some Open) n w = by_recording (is_recording r.phase) w
  where
    by_recording : (recording : Bool) → whole_as (Ok (if recording then Record else Process)) ≡ Some n → ⊥
    by_recording true e = grind (arith, common_steps)
    by_recording false e = grind (arith, common_steps)
element_not_whole r (Some Held) n w = by_recording (is_recording r.phase) w
  where
    by_recording : (recording : Bool) → whole_as (Ok (if recording then Process else Hold)) ≡ Some n → ⊥
    by_recording true e = grind (arith, common_steps)
    by_recording false e = grind (arith, common_steps)
element_not_whole r (Some Ended) n w = grind (arith, common_steps)

if_open_part : (r : Recorder) (o : Option Input) (s : Stepped) (n : ℕ) (k : Kept) (c : List Item) → whole_as (if_open r o s).1 ≡ Some n → (o ≡ Some Open → whole_as s.1 ≡ Some n → Came n (part_as k s.1) c) → Came n (part_as k (if_open r o s).1) c
if_open_part r None s n k c w goes = grind (arith, common_steps)
if_open_part r (Some Open) s n k c w goes = goes refl w
if_open_part r (Some Held) s n k c w goes = grind (arith, common_steps)
if_open_part r (Some Ended) s n k c w goes = grind (arith, common_steps)

whole_is_taken : (answer : Result Answer Refusal) (n : ℕ) → whole_as answer ≡ Some n → is_taken answer ≡ true
whole_is_taken (Ok (Cut id)) n e = refl
whole_is_taken (Ok (Complete id)) n e = refl
whole_is_taken answer n e = grind (arith, common_steps)

reads_part-same : (i n : ℕ) (item : Item) (r : Recorder) (k : Kept) (c : List Item) → KeptFits i r k c → i < length r.inputs → whole_as (step r (event_of i item)).1 ≡ Some n → Came n (part_as k (step r (event_of i item)).1) (c ++ item ∷ [])
unfolding step
reads_part-same i n (Element x) r k c h within w = absurd (element_not_whole r (slice_get r.inputs i) n w)
reads_part-same i n (Barrier m) r k c h within w =
    if_open_part r (slice_get r.inputs i) (barrier r i m) n k (c ++ Barrier m ∷ []) w (λ at e. barrier_part-same i m n r k c at h within e)
reads_part-same i n End r k c h within w =
    if_open_part r (slice_get r.inputs i) (settled (with_input r i Ended)) n k (c ++ End ∷ []) w
    (λ at e. settled_part i n (with_input r i Ended) k (c ++ End ∷ []) (ends_fits-same i r k.all (part k) c at h) (rw (length-set r.inputs i Ended) within) e)

reads_part-other : (i j n : ℕ) (item : Item) (r : Recorder) (k : Kept) (c : List Item) → i ≢ j → KeptFits j r k c → j < length r.inputs → whole_as (step r (event_of i item)).1 ≡ Some n → Came n (part_as k (step r (event_of i item)).1) c
unfolding step
reads_part-other i j n (Element x) r k c other h within w = absurd (element_not_whole r (slice_get r.inputs i) n w)
reads_part-other i j n (Barrier m) r k c other h within w =
    if_open_part r (slice_get r.inputs i) (barrier r i m) n k c w (λ at e. barrier_part-other i j m n r k c other h within e)
reads_part-other i j n End r k c other h within w =
    if_open_part r (slice_get r.inputs i) (settled (with_input r i Ended)) n k c w
    (λ at e. settled_part j n (with_input r i Ended) k c (ends_fits-other i j r k.all (part k) c other h) (rw (length-set r.inputs i Ended) within) e)

reads_part : (i j n : ℕ) (item : Item) (r : Recorder) (k : Kept) (c : List Item) → KeptFits j r k c → j < length r.inputs → whole_as (answer_to r (Reads i item)) ≡ Some n
    → Came n (part_as k (answer_to r (Reads i item))) (c ++ taken_by j r (Reads i item))
reads_part i j n item r k c h within w = ⊎_elim (λ e. same e.1) (λ e. other e.1) (eqb_tells i j)
  where
    Goal : ℕ → Type 0
    Goal m = whole_as (step r (event_of m item)).1 ≡ Some n → Came n (part_as k (step r (event_of m item)).1) (c ++ (if (m == j) && is_taken (step r (event_of m item)).1 then item ∷ [] else []))

    at_j : Goal j
    at_j e = rw (same_test j, whole_is_taken (step r (event_of j item)).1 n e) (reads_part-same j n item r k c h within e)

    same : i ≡ j → Came n (part_as k (answer_to r (Reads i item))) (c ++ taken_by j r (Reads i item))
    same e = subst Goal (sym e) at_j w

    other : i ≢ j → Came n (part_as k (answer_to r (Reads i item))) (c ++ taken_by j r (Reads i item))
    other e = rw (other_test i j e, append-nil c) (reads_part-other i j n item r k c e h within w)

overtake_by_not_whole : (r : Recorder) (m n : ℕ) (l free : Bool) → whole_as (overtake_by r m l free).1 ≡ Some n → ⊥
unfolding overtake_by
overtake_by_not_whole r m n true free w = grind (arith, common_steps)
overtake_by_not_whole r m n false true w = grind (arith, common_steps)
overtake_by_not_whole r m n false false w = grind (arith, common_steps)

overtake_not_whole : (r : Recorder) (m n : ℕ) → whole_as (answer_to r (Overtakes m)) ≡ Some n → ⊥
unfolding overtake overtake_by
overtake_not_whole r m n w = overtake_by_not_whole r m n (is_late r m) (list_any is_open r.inputs && is_free_for r.phase (m == r.latest)) w

give_up_by_not_whole : (r : Recorder) (m n : ℕ) (is_now : Bool) → whole_as (give_up_by m r is_now).1 ≡ Some n → ⊥
unfolding give_up_by
give_up_by_not_whole r m n true w = grind (arith, common_steps)
give_up_by_not_whole r m n false w = grind (arith, common_steps)

give_up_not_whole : (r : Recorder) (m n : ℕ) → whole_as (answer_to r (GivesUp m)) ≡ Some n → ⊥
unfolding step give_up give_up_by
give_up_not_whole r m n w = give_up_by_not_whole r m n (not (is_idle r.phase) && (m == r.latest)) w

action_part : (j n : ℕ) (action : Action) (r : Recorder) (k : Kept) (c : List Item) → KeptFits j r k c → j < length r.inputs → whole_as (answer_to r action) ≡ Some n → Came n (part_as k (answer_to r action)) (c ++ taken_by j r action)
action_part j n (Reads i item) r k c h within w = reads_part i j n item r k c h within w
action_part j n (Overtakes m) r k c h within w = absurd (overtake_not_whole r m n w)
action_part j n (GivesUp m) r k c h within w = absurd (give_up_not_whole r m n w)
action_part j n (Sends output x) r k c h within w = grind (arith, common_steps)
action_part j n Ends r k c h within w = grind (arith, common_steps)

-- no action changes how many inputs there are

length-settled_by : (r : Recorder) (idle left : Bool) → length (settled_by r idle left).0.inputs ≡ length r.inputs
unfolding settled_by
length-settled_by r true left = refl
length-settled_by r false true = refl
length-settled_by r false false = length-map r.inputs released

length-settled : (r : Recorder) → length (settled r).0.inputs ≡ length r.inputs
unfolding settled settled_by
length-settled r = length-settled_by r (is_idle r.phase) (list_any is_open r.inputs)

length-barrier_by : (r : Recorder) (i n : ℕ) (l above : Bool) → length (barrier_by r i n l above).0.inputs ≡ length r.inputs
length-barrier_by r i n true above = refl
length-barrier_by r i n false true = length-map r.inputs released
length-barrier_by r i n false false = length-settled (delivered r i n) ∙ length-set r.inputs i Held

length-barrier : (r : Recorder) (i n : ℕ) → length (barrier r i n).0.inputs ≡ length r.inputs
unfolding barrier
length-barrier r i n = length-barrier_by r i n (is_late r n) (not (is_idle r.phase) && nat_lt r.latest n)

length-if_open : (r : Recorder) (o : Option Input) (s : Stepped) → length s.0.inputs ≡ length r.inputs → length (if_open r o s).0.inputs ≡ length r.inputs
length-if_open r None s e = refl
length-if_open r (Some Open) s e = e
length-if_open r (Some Held) s e = refl
length-if_open r (Some Ended) s e = refl

length-reads : (r : Recorder) (i : ℕ) (item : Item) → length (step r (event_of i item)).0.inputs ≡ length r.inputs
unfolding step
length-reads r i (Element x) = ap (λ (q : Recorder). length q.inputs) (element_other r (slice_get r.inputs i))
length-reads r i (Barrier n) = length-if_open r (slice_get r.inputs i) (barrier r i n) (length-barrier r i n)
length-reads r i End = length-if_open r (slice_get r.inputs i) (settled (with_input r i Ended)) (length-settled (with_input r i Ended) ∙ length-set r.inputs i Ended)

length-overtake_by : (r : Recorder) (n : ℕ) (l free : Bool) → length (overtake_by r n l free).0.inputs ≡ length r.inputs
unfolding overtake_by
length-overtake_by r n true free = refl
length-overtake_by r n false true = refl
length-overtake_by r n false false = refl

length-overtakes : (r : Recorder) (n : ℕ) → length (after r (Overtakes n)).inputs ≡ length r.inputs
unfolding overtake overtake_by
length-overtakes r n = length-overtake_by r n (is_late r n) (list_any is_open r.inputs && is_free_for r.phase (n == r.latest))

length-give_up_by : (r : Recorder) (n : ℕ) (is_now : Bool) → length (give_up_by n r is_now).0.inputs ≡ length r.inputs
unfolding give_up_by
length-give_up_by r n true = length-map r.inputs released
length-give_up_by r n false = refl

length-gives_up : (r : Recorder) (n : ℕ) → length (after r (GivesUp n)).inputs ≡ length r.inputs
unfolding step give_up give_up_by
length-gives_up r n = length-give_up_by r n (not (is_idle r.phase) && (n == r.latest))

length-after : (r : Recorder) (action : Action) → length (after r action).inputs ≡ length r.inputs
length-after r (Reads i item) = length-reads r i item
length-after r (Overtakes n) = length-overtakes r n
length-after r (GivesUp n) = length-gives_up r n
length-after r (Sends output x) = refl
length-after r Ends = refl

-- the local law, from each recorder that fits

local_from : (actions : List Action) (r : Recorder) (k : Kept) (c : List Item) (action : Action) (n j : ℕ) (rest : List Item) → KeptFits j r k c → j < length r.inputs → whole_as (answer_to (replay r actions) action) ≡ Some n
    → before n (c ++ (taken j r (actions ++ action ∷ []) ++ rest)) ≡ part_as (kept j r k actions) (answer_to (replay r actions) action)
local_from [] r k c action n j rest h within w =
    ap (λ items. before n (c ++ (items ++ rest))) (append-nil (taken_by j r action))
    ∙ ap (before n) (sym (append_assoc c (taken_by j r action) rest))
    ∙ action_part j n action r k c h within w rest
local_from (one ∷ actions) r k c action n j rest h within w =
    let q : Recorder = after r one in
    let its : List Item = taken_by j r one in
    let tail : List Item = taken j q (actions ++ action ∷ []) in
    ap (λ items. before n (c ++ items)) (append_assoc its tail rest)
    ∙ ap (before n) (sym (append_assoc c its (tail ++ rest)))
    ∙ local_from actions q (kept_by j r k one) (c ++ its) action n j rest (action_fits j r k one c h) (rw (length-after r one) within) w

pub local_part : (inputs : ℕ) (actions : List Action) (action : Action) (n j : ℕ) (rest : List Item) → LocalPart inputs actions action n j rest
local_part inputs actions action n j rest w within =
    sym (local_from actions (opened inputs) nothing_yet [] action n j rest (opened_fits inputs j) (rw (length-replicate inputs Open) within) w)

-- the sender: what it sent before its snapshot is what its output carries before the barrier

barrier_first : (n c : ℕ) (o : Option ℕ) (r : Recorder) (actions : List Action) (is : Bool) (a : Action) → is_number n o ≡ is → sent_by c r a ≡ barriers o → elements (sent c (after r a) (before_snap n (after r a) actions)) ≡ before n (sent c (after r a) actions)
    → elements (sent c r (if is then [] else a ∷ before_snap n (after r a) actions)) ≡ before n (barriers o ++ sent c (after r a) actions)
barrier_first n c o r actions true a e same more = sym (before-its_barrier n o (sent c (after r a) actions) e)
barrier_first n c o r actions false a e same more =
    ap (λ items. elements (items ++ sent c (after r a) (before_snap n (after r a) actions))) same
    ∙ elements-barriers o (sent c (after r a) (before_snap n (after r a) actions))
    ∙ more
    ∙ sym (before-other_barrier n o (sent c (after r a) actions) e)

sent_before_snap : (n c : ℕ) (r : Recorder) (actions : List Action) → elements (sent c r (before_snap n r actions)) ≡ before n (sent c r actions)
sent_before_snap n c r [] = refl
sent_before_snap n c r (Ends ∷ actions) = refl
sent_before_snap n c r (Sends output x ∷ actions) = grind (arith, common_steps, sent_before_snap n c r actions, cases_Bool (output == c))
sent_before_snap n c r (Reads i item ∷ actions) =
    let a : Action = Reads i item in
    barrier_first n c (snap_as (answer_to r a)) r actions (is_number n (snap_as (answer_to r a))) a refl refl (sent_before_snap n c (after r a) actions)
sent_before_snap n c r (Overtakes m ∷ actions) =
    let a : Action = Overtakes m in
    barrier_first n c (snap_as (answer_to r a)) r actions (is_number n (snap_as (answer_to r a))) a refl refl (sent_before_snap n c (after r a) actions)
sent_before_snap n c r (GivesUp m ∷ actions) =
    let a : Action = GivesUp m in
    barrier_first n c (snap_as (answer_to r a)) r actions (is_number n (snap_as (answer_to r a))) a refl refl (sent_before_snap n c (after r a) actions)

-- the channel

taken-append : (j : ℕ) (r : Recorder) (xs ys : List Action) → taken j r (xs ++ ys) ≡ taken j r xs ++ taken j (replay r xs) ys
taken-append j r [] ys = refl
taken-append j r (x ∷ xs) ys = ap (λ l. taken_by j r x ++ l) (taken-append j (after r x) xs ys) ∙ sym (append_assoc (taken_by j r x) (taken j (after r x) xs) (taken j (replay (after r x) xs) ys))

elements_first : (n : ℕ) (xs : List ℕ) (items : List Item) → before n (map Element xs ++ items) ≡ xs ++ before n items
elements_first n [] items = refl
elements_first n (x ∷ xs) items = ap (λ ys. x ∷ ys) (elements_first n xs items)

pub global_part : (n : ℕ) (w : Network) (c : Channel) → GlobalPart n w c
global_part n w c connected in_order its =
    let to : Task = w.task c.receiver in
    let from : Task = w.task c.sender in
    let r : Recorder = opened to.inputs in
    let first : List Action = its.earlier ++ its.action ∷ [] in
    let later : List Item = taken c.input (replay r first) its.later in
    let all : taken c.input r to.actions ≡ taken c.input r first ++ later =
    ap (taken c.input r) (its.are_its ∙ sym (append_assoc its.earlier (its.action ∷ []) its.later)) ∙ taken-append c.input r first its.later in
    local_part to.inputs its.earlier its.action n c.input (later ++ in_order.0) its.is_whole connected
    ∙ ap (before n) (sym (append_assoc (taken c.input r first) later in_order.0) ∙ ap (λ items. items ++ in_order.0) (sym all) ∙ sym in_order.1)
    ∙ elements_first n (w.first c) (sent c.output (opened from.inputs) from.actions)
    ∙ ap (λ xs. w.first c ++ xs) (sym (sent_before_snap n c.output (opened from.inputs) from.actions))
