-- What was taken from an input fits how the input is, after each list of actions.
use Rattle.ckpt_align.proofs.Names.{◌≡◌, ◌≢◌, ℕ, ◌<◌, ◌≤◌, Bool, true, false, ◌&&◌, List, [], ◌∷◌, ◌++◌, ◌∙◌, refl, sym, subst, arith, cases_Bool, common_steps, append-nil, Option, Result, Ok, Some, None, slice_get, list_any}
use Rattle.ckpt_align.proofs.Names.{Input, Open, Held, Ended, Alignment, is_held, is_open, released, is_late, is_aligning, all_released, held_for, with_input, opened, Item, Element, Barrier, End, Action, Reads, GivesUp, Sends, Ends, after, answer_to, event_of, is_taken, taken_by}
use Rattle.ckpt_align.proofs.ItemLemmas.{Runs, Stops, runs_none, runs_on, runs_past, stops_at, stops_at_end}
use Rattle.ckpt_align.proofs.InputLemmas.{get-set_same, get-set_other, get-replicate, get-released, get-released_open, none_held, held-from_ended, any-get}
use Rattle.ckpt_align.specs.declared.event.Answer.{Answer}
use Rattle.ckpt_align.specs.declared.event.Refusal.{Refusal}
use Rattle.ckpt_align.specs.declared.event.Answer.TheVariants.{Wait, Cut, Nothing, Late, Abandon}
use Rattle.std.specs.Prelude.{if◌then◌else◌, nat_lt, ◌==◌}
use Rattle.std.proofs.Common.{⊎_elim}
use Rattle.std.proofs.lemmas.Bool.Decides.{eqb_tells}
use Rattle.ckpt_align.specs.Steps.{settled, barrier, give_up, step, if_open, element}

-- Of an open input nothing was taken that stops a record that is not late. Of a held one the barrier of the record
-- being aligned was taken last, and nothing that stops a later record. Of an ended one what was taken stops each
-- record that is not late.
abbrev pub FitsAs : Alignment → Input → List Item → Type 0
FitsAs a Open c = (n : ℕ) → is_late a n ≡ false → Runs n c
FitsAs a Held c = Stops a.latest c × ((n : ℕ) → a.latest < n → Runs n c)
FitsAs a Ended c = (n : ℕ) → is_late a n ≡ false → Stops n c

abbrev pub Fits : ℕ → Alignment → List Item → Type 0
Fits j a c = (s : Input) → slice_get a.inputs j ≡ Some s → FitsAs a s c

-- records that are not late

-- the greater ones are not late either
pub not_late_above : (a : Alignment) (n m : ℕ) → is_late a n ≡ false → n ≤ m → is_late a m ≡ false
not_late_above a n m e h = grind (arith, common_steps, cases_Bool (is_aligning a))

pub not_late-least : (a : Alignment) (n : ℕ) → is_late a n ≡ false → a.latest ≤ n
not_late-least a n e = grind (arith, common_steps, cases_Bool (is_aligning a))

pub not_late-greater : (a : Alignment) (n : ℕ) → a.latest < n → is_late a n ≡ false
not_late-greater a n h = grind (arith, common_steps, cases_Bool (is_aligning a))

pub not_late-released : (a : Alignment) (n : ℕ) → is_late (all_released a) n ≡ false → a.latest < n
not_late-released a n e = grind (arith, common_steps, none_held a.inputs)

-- the one being aligned is not late
pub not_late-latest : (a : Alignment) → is_aligning a ≡ true → is_late a a.latest ≡ false
not_late-latest a h = grind (arith, common_steps)

-- at the opening
pub opened_fits : (inputs j : ℕ) → Fits j (opened inputs) []
opened_fits inputs j Open e = λ n late. runs_none n
opened_fits inputs j Held e = grind (arith, common_steps, get-replicate inputs j Open Held e)
opened_fits inputs j Ended e = grind (arith, common_steps, get-replicate inputs j Open Ended e)

-- once the inputs are released
released_as : (a : Alignment) (t : Input) (c : List Item) → FitsAs a t c → FitsAs (all_released a) (released t) c
released_as a Open c h = λ n late. h n (not_late-greater a n (not_late-released a n late))
released_as a Held c h = λ n late. h.1 n (not_late-released a n late)
released_as a Ended c h = λ n late. h n (not_late-greater a n (not_late-released a n late))

pub released_fits : (j : ℕ) (a : Alignment) (c : List Item) → Fits j a c → Fits j (all_released a) c
released_fits j a c h s e =
    let from = get-released a.inputs j s e in
    let As : Input → Type 0 = λ t. FitsAs (all_released a) t c in
    subst As (sym from.2) (released_as a from.0 c (h from.0 from.1))

-- the barrier of a record that is not late, on an open input
held_other : (a : Alignment) (i j n : ℕ) (s : Input) (c : List Item) → is_late a n ≡ false → (is_aligning a ≡ true → n ≡ a.latest) → slice_get a.inputs j ≡ Some s → FitsAs a s c → FitsAs (held_for a i n) s c
held_other a i j n Open c late same at h = λ m later. h m (not_late_above a n m late (not_late-least (held_for a i n) m later))
held_other a i j n Held c late same at h =
    let here : n ≡ a.latest = same (any-get is_held a.inputs j Held at refl) in
    (rw here h.0, λ m later. h.1 m (rw (sym here) later))
held_other a i j n Ended c late same at h = λ m later. h m (not_late_above a n m late (not_late-least (held_for a i n) m later))

pub held_fits-other : (i j n : ℕ) (a : Alignment) (c : List Item) → i ≢ j → is_late a n ≡ false → (is_aligning a ≡ true → n ≡ a.latest) → Fits j a c → Fits j (held_for a i n) c
held_fits-other i j n a c other late same h s e =
    let at : slice_get a.inputs j ≡ Some s = sym (get-set_other a.inputs i j Held other) ∙ e in
    held_other a i j n s c late same at (h s at)

pub held_fits-same : (i n : ℕ) (a : Alignment) (c : List Item) → is_late a n ≡ false → slice_get a.inputs i ≡ Some Open → Fits i a c → Fits i (held_for a i n) (c ++ Barrier n ∷ [])
held_fits-same i n a c late is_at h Held e =
    let runs = h Open is_at in
    (stops_at n c (runs n late), λ m later. runs_past m n c (λ e. absurd (omega arith)) (runs m (not_late_above a n m late (omega arith))))
held_fits-same i n a c late is_at h Open e = grind (arith, common_steps, get-set_same a.inputs i Open Held is_at)
held_fits-same i n a c late is_at h Ended e = grind (arith, common_steps, get-set_same a.inputs i Open Held is_at)

-- the end, on an open input
pub not_late-ended : (a : Alignment) (i m : ℕ) → is_late (with_input a i Ended) m ≡ false → is_late a m ≡ false
not_late-ended a i m e = grind (arith, common_steps, cases_Bool (is_aligning a), cases_Bool (is_aligning (with_input a i Ended)), held-from_ended a.inputs i)

ended_other : (a : Alignment) (i : ℕ) (s : Input) (c : List Item) → FitsAs a s c → FitsAs (with_input a i Ended) s c
ended_other a i Open c h = λ m later. h m (not_late-ended a i m later)
ended_other a i Held c h = h
ended_other a i Ended c h = λ m later. h m (not_late-ended a i m later)

pub ended_fits-other : (i j : ℕ) (a : Alignment) (c : List Item) → i ≢ j → Fits j a c → Fits j (with_input a i Ended) c
ended_fits-other i j a c other h s e = ended_other a i s c (h s (sym (get-set_other a.inputs i j Ended other) ∙ e))

pub ended_fits-same : (i : ℕ) (a : Alignment) (c : List Item) → slice_get a.inputs i ≡ Some Open → Fits i a c → Fits i (with_input a i Ended) (c ++ End ∷ [])
ended_fits-same i a c is_at h Ended e = λ m later. stops_at_end m c (h Open is_at m (not_late-ended a i m later))
ended_fits-same i a c is_at h Open e = grind (arith, common_steps, get-set_same a.inputs i Open Ended is_at)
ended_fits-same i a c is_at h Held e = grind (arith, common_steps, get-set_same a.inputs i Open Ended is_at)

-- the cut, if it is one
unfoldable pub settled_by : Alignment → Bool → Bool → Alignment × Result Answer Refusal
settled_by a aligning left = if aligning then (if left then (a, Ok Wait) else (all_released a, Ok (Cut a.latest))) else (a, Ok Nothing)

settled_by_fits : (j : ℕ) (a : Alignment) (c : List Item) (aligning left : Bool) → Fits j a c → Fits j (settled_by a aligning left).0 c
unfolding settled_by
settled_by_fits j a c true true h = h
settled_by_fits j a c true false h = released_fits j a c h
settled_by_fits j a c false left h = h

pub settled_fits : (j : ℕ) (a : Alignment) (c : List Item) → Fits j a c → Fits j (settled a).0 c
unfolding settled settled_by
settled_fits j a c h = settled_by_fits j a c (is_aligning a) (list_any is_open a.inputs) h

-- a barrier, by its two tests
abbrev pub barrier_by : Alignment → ℕ → ℕ → Bool → Bool → Alignment × Result Answer Refusal
barrier_by a i n late above = if late then (a, Ok Late) else (if above then (held_for (all_released a) i n, Ok (Abandon a.latest)) else settled (held_for a i n))

-- the tests, read
pub above_is : (a : Alignment) (n : ℕ) → (is_aligning a && nat_lt a.latest n) ≡ true → a.latest < n
above_is a n e = grind (arith, common_steps, cases_Bool (is_aligning a))

pub above_not : (a : Alignment) (n : ℕ) → is_late a n ≡ false → (is_aligning a && nat_lt a.latest n) ≡ false → is_aligning a ≡ true → n ≡ a.latest
above_not a n late e aligning = grind (arith, common_steps)

released_idle : (a : Alignment) (n : ℕ) → is_aligning (all_released a) ≡ true → n ≡ a.latest
released_idle a n e = grind (arith, common_steps, none_held a.inputs)

late_barrier_fits : (i n : ℕ) (a : Alignment) (c : List Item) → is_late a n ≡ true → slice_get a.inputs i ≡ Some Open → Fits i a c → Fits i a (c ++ Barrier n ∷ [])
late_barrier_fits i n a c late at h Open e = λ m not_late. runs_past m n c (λ same. grind (arith, common_steps)) (h Open e m not_late)
late_barrier_fits i n a c late at h Held e = grind (arith, common_steps)
late_barrier_fits i n a c late at h Ended e = grind (arith, common_steps)

barrier_by_fits-same : (i n : ℕ) (a : Alignment) (c : List Item) (late above : Bool) → is_late a n ≡ late → (is_aligning a && nat_lt a.latest n) ≡ above → slice_get a.inputs i ≡ Some Open → Fits i a c
    → Fits i (barrier_by a i n late above).0 (c ++ Barrier n ∷ [])
barrier_by_fits-same i n a c true above l b at h = late_barrier_fits i n a c l at h
barrier_by_fits-same i n a c false true l b at h =
    held_fits-same i n (all_released a) c (not_late-greater (all_released a) n (above_is a n b)) (get-released_open a.inputs i at) (released_fits i a c h)
barrier_by_fits-same i n a c false false l b at h = settled_fits i (held_for a i n) (c ++ Barrier n ∷ []) (held_fits-same i n a c l at h)

pub barrier_fits-same : (i n : ℕ) (a : Alignment) (c : List Item) → slice_get a.inputs i ≡ Some Open → Fits i a c → Fits i (barrier a i n).0 (c ++ Barrier n ∷ [])
unfolding barrier
barrier_fits-same i n a c at h = barrier_by_fits-same i n a c (is_late a n) (is_aligning a && nat_lt a.latest n) refl refl at h

barrier_by_fits-other : (i j n : ℕ) (a : Alignment) (c : List Item) (late above : Bool) → is_late a n ≡ late → (is_aligning a && nat_lt a.latest n) ≡ above → i ≢ j → Fits j a c
    → Fits j (barrier_by a i n late above).0 c
barrier_by_fits-other i j n a c true above l b other h = h
barrier_by_fits-other i j n a c false true l b other h =
    held_fits-other i j n (all_released a) c other (not_late-greater (all_released a) n (above_is a n b)) (released_idle a n) (released_fits j a c h)
barrier_by_fits-other i j n a c false false l b other h = settled_fits j (held_for a i n) c (held_fits-other i j n a c other l (above_not a n l b) h)

pub barrier_fits-other : (i j n : ℕ) (a : Alignment) (c : List Item) → i ≢ j → Fits j a c → Fits j (barrier a i n).0 c
unfolding barrier
barrier_fits-other i j n a c other h = barrier_by_fits-other i j n a c (is_late a n) (is_aligning a && nat_lt a.latest n) refl refl other h

unfoldable pub give_up_by : ℕ → Alignment → Bool → Alignment × Result Answer Refusal
give_up_by n a is_now = if is_now then (all_released a, Ok (Abandon n)) else (a, Ok Nothing)

give_up_by_fits : (j n : ℕ) (a : Alignment) (c : List Item) (is_now : Bool) → Fits j a c → Fits j (give_up_by n a is_now).0 c
unfolding give_up_by
give_up_by_fits j n a c true h = released_fits j a c h
give_up_by_fits j n a c false h = h

pub give_up_fits : (j n : ℕ) (a : Alignment) (c : List Item) → Fits j a c → Fits j (give_up a n).0 c
unfolding give_up give_up_by
give_up_fits j n a c h = give_up_by_fits j n a c (is_aligning a && (n == a.latest)) h

-- an element, if it is processed
element_fits : (i x : ℕ) (a : Alignment) (c : List Item) → slice_get a.inputs i ≡ Some Open → Fits i a c → Fits i a (c ++ Element x ∷ [])
element_fits i x a c at h Open e = λ n late. runs_on n c x (h Open e n late)
element_fits i x a c at h Held e = grind (arith, common_steps)
element_fits i x a c at h Ended e = grind (arith, common_steps)

-- the answers after which the item is taken
settled_taken_by : (a : Alignment) (aligning left : Bool) → is_taken (settled_by a aligning left).1 ≡ true
unfolding settled_by
settled_taken_by a true true = refl
settled_taken_by a true false = refl
settled_taken_by a false left = refl

pub settled_taken : (a : Alignment) → is_taken (settled a).1 ≡ true
unfolding settled settled_by
settled_taken a = settled_taken_by a (is_aligning a) (list_any is_open a.inputs)

barrier_taken_by : (a : Alignment) (i n : ℕ) (late above : Bool) → is_taken (barrier_by a i n late above).1 ≡ true
barrier_taken_by a i n true above = refl
barrier_taken_by a i n false true = refl
barrier_taken_by a i n false false = settled_taken (held_for a i n)

pub barrier_taken : (a : Alignment) (i n : ℕ) → is_taken (barrier a i n).1 ≡ true
unfolding barrier
barrier_taken a i n = barrier_taken_by a i n (is_late a n) (is_aligning a && nat_lt a.latest n)

-- what an answer takes of the input that it is about
abbrev pub taken_as : Result Answer Refusal → Item → List Item
taken_as answer item = if is_taken answer then item ∷ [] else []

pub taken_always : (answer : Result Answer Refusal) (item : Item) → is_taken answer ≡ true → taken_as answer item ≡ item ∷ []
taken_always answer item e = grind (arith, common_steps)

-- a step about this input
element_reads-same : (i x : ℕ) (a : Alignment) (c : List Item) (o : Option Input) → slice_get a.inputs i ≡ o → Fits i a c → Fits i (element a o).0 (c ++ taken_as (element a o).1 (Element x))
element_reads-same i x a c None at h = rw (append-nil c) h
element_reads-same i x a c (Some Open) at h = element_fits i x a c at h
element_reads-same i x a c (Some Held) at h = rw (append-nil c) h
element_reads-same i x a c (Some Ended) at h = rw (append-nil c) h

if_open_reads-same : (i : ℕ) (item : Item) (a : Alignment) (c : List Item) (o : Option Input) (s : Alignment × Result Answer Refusal) → slice_get a.inputs i ≡ o → Fits i a c
    → is_taken s.1 ≡ true → (slice_get a.inputs i ≡ Some Open → Fits i s.0 (c ++ item ∷ [])) → Fits i (if_open a o s).0 (c ++ taken_as (if_open a o s).1 item)
if_open_reads-same i item a c None s at h takes goes = rw (append-nil c) h
if_open_reads-same i item a c (Some Open) s at h takes goes = rw (taken_always s.1 item takes) (goes at)
if_open_reads-same i item a c (Some Held) s at h takes goes = rw (append-nil c) h
if_open_reads-same i item a c (Some Ended) s at h takes goes = rw (append-nil c) h

reads-same : (i : ℕ) (item : Item) (a : Alignment) (c : List Item) → Fits i a c → Fits i (step a (event_of i item)).0 (c ++ taken_as (answer_to a i item) item)
unfolding step
reads-same i (Element x) a c h = element_reads-same i x a c (slice_get a.inputs i) refl h
reads-same i (Barrier n) a c h = if_open_reads-same i (Barrier n) a c (slice_get a.inputs i) (barrier a i n) refl h (barrier_taken a i n) (λ at. barrier_fits-same i n a c at h)
reads-same i End a c h =
    if_open_reads-same i End a c (slice_get a.inputs i) (settled (with_input a i Ended)) refl h (settled_taken (with_input a i Ended))
    (λ at. settled_fits i (with_input a i Ended) (c ++ End ∷ []) (ended_fits-same i a c at h))

-- and one about another
pub element_reads-other : (a : Alignment) (o : Option Input) → (element a o).0 ≡ a
element_reads-other a None = refl
element_reads-other a (Some Open) = refl
element_reads-other a (Some Held) = refl
element_reads-other a (Some Ended) = refl

if_open_reads-other : (j : ℕ) (a : Alignment) (c : List Item) (o : Option Input) (s : Alignment × Result Answer Refusal) → Fits j a c → Fits j s.0 c → Fits j (if_open a o s).0 c
if_open_reads-other j a c None s h goes = h
if_open_reads-other j a c (Some Open) s h goes = goes
if_open_reads-other j a c (Some Held) s h goes = h
if_open_reads-other j a c (Some Ended) s h goes = h

reads-other : (i j : ℕ) (item : Item) (a : Alignment) (c : List Item) → i ≢ j → Fits j a c → Fits j (step a (event_of i item)).0 c
unfolding step
reads-other i j (Element x) a c other h = rw (element_reads-other a (slice_get a.inputs i)) h
reads-other i j (Barrier n) a c other h = if_open_reads-other j a c (slice_get a.inputs i) (barrier a i n) h (barrier_fits-other i j n a c other h)
reads-other i j End a c other h =
    if_open_reads-other j a c (slice_get a.inputs i) (settled (with_input a i Ended)) h (settled_fits j (with_input a i Ended) c (ended_fits-other i j a c other h))

-- what is taken of an input
pub taken-same : (i : ℕ) (item : Item) (a : Alignment) → taken_by i a (Reads i item) ≡ taken_as (answer_to a i item) item
taken-same i item a = grind (arith, common_steps)

pub taken-other : (i j : ℕ) (item : Item) (a : Alignment) → i ≢ j → taken_by j a (Reads i item) ≡ []
taken-other i j item a other = grind (arith, common_steps)

gives_up_fits : (j id : ℕ) (a : Alignment) (c : List Item) → Fits j a c → Fits j (after a (GivesUp id)) c
unfolding step
gives_up_fits j id a c h = give_up_fits j id a c h

-- each action
pub action_fits : (j : ℕ) (a : Alignment) (action : Action) (c : List Item) → Fits j a c → Fits j (after a action) (c ++ taken_by j a action)
action_fits j a (Reads i item) c h = ⊎_elim (λ e. read_same e.1) (λ e. read_other e.1) (eqb_tells i j)
  where
    read_same : i ≡ j → Fits j (after a (Reads i item)) (c ++ taken_by j a (Reads i item))
    read_same same =
        let At : ℕ → Type 0 = λ k. Fits k a c → Fits k (after a (Reads i item)) (c ++ taken_by k a (Reads i item)) in
        subst At same (λ (k : Fits i a c). rw (taken-same i item a) (reads-same i item a c k)) h

    read_other : i ≢ j → Fits j (after a (Reads i item)) (c ++ taken_by j a (Reads i item))
    read_other other = rw (taken-other i j item a other) (rw (append-nil c) (reads-other i j item a c other h))
action_fits j a (GivesUp id) c h = rw (append-nil c) (gives_up_fits j id a c h)
action_fits j a (Sends output x) c h = rw (append-nil c) h
action_fits j a Ends c h = rw (append-nil c) h
