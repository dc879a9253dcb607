-- What was taken from an input, and what is kept of it, fit how the input is, after each list of actions.
use Rattle.ckpt_align.proofs.Names.{◌≡◌, ◌≢◌, ℕ, ◌<◌, ◌≤◌, Bool, true, false, List, [], ◌∷◌, ◌++◌, ◌∙◌, refl, sym, ap, subst, arith, common_steps, append-nil, append_assoc, Ok, Some, slice_get, list_any}
use Rattle.ckpt_align.specs.declared.input.Input.{Input}
use Rattle.ckpt_align.specs.declared.input.Input.TheVariants.{Open, Held, Ended}
use Rattle.ckpt_align.proofs.Names.{is_open, released, Item, Element, Barrier, End, before, elements}
use Rattle.ckpt_align.proofs.ItemLemmas.{Runs, Stops, elements-append, runs_none, runs_on, runs_past, stops_at, stops_at_end}
use Rattle.ckpt_align.proofs.InputLemmas.{get-set_same, get-set_other, get-replicate, get-released}
use Rattle.ckpt_unaligned.specs.declared.answer.Answer.TheVariants.{Nothing, Wait}
use Rattle.ckpt_unaligned.specs.declared.answer.Phase.{Phase}
use Rattle.ckpt_unaligned.specs.declared.answer.Phase.TheVariants as phase
use Rattle.ckpt_unaligned.specs.Recording.{Recorder, begun, delivered, ended, is_idle, is_late, is_recording, opened, overtaken, with_input}
use Rattle.ckpt_unaligned.specs.Steps.{Stepped, is_free_for, settled, whole}
use Rattle.std.specs.Prelude.{if◌then◌else◌, nat_lt, nat_le, ◌==◌}

-- records that are not late

abbrev pub late : Phase → ℕ → ℕ → Bool
late p m n = if is_idle p then nat_le n m else nat_lt n m

pub not_late-greater : (p : Phase) (m n : ℕ) → m < n → late p m n ≡ false
not_late-greater phase.Idle m n h = grind (arith, common_steps)
not_late-greater phase.Aligning m n h = grind (arith, common_steps)
not_late-greater phase.Recording m n h = grind (arith, common_steps)

pub not_late-above : (p : Phase) (m n k : ℕ) → late p m n ≡ false → n ≤ k → late p m k ≡ false
not_late-above phase.Idle m n k e h = grind (arith, common_steps)
not_late-above phase.Aligning m n k e h = grind (arith, common_steps)
not_late-above phase.Recording m n k e h = grind (arith, common_steps)

pub idle_not_late : (m n : ℕ) → late phase.Idle m n ≡ false → m < n
idle_not_late m n e = grind (arith, common_steps)

pub busy_not_late : (m n : ℕ) → nat_lt n m ≡ false → m ≤ n
busy_not_late m n e = grind (arith, common_steps)

-- What comes before the barrier of a record: `part`, and then what follows decides; or nothing that follows does.

abbrev pub Comes : ℕ → List ℕ → List Item → Type 0
Comes n part c = (rest : List Item) → before n (c ++ rest) ≡ part ++ before n rest

abbrev pub Came : ℕ → List ℕ → List Item → Type 0
Came n part c = (rest : List Item) → before n (c ++ rest) ≡ part

comes_on : (n x : ℕ) (part : List ℕ) (c : List Item) → Comes n part c → Comes n (part ++ x ∷ []) (c ++ Element x ∷ [])
comes_on n x part c h rest = grind (arith, common_steps, append_assoc c (Element x ∷ []) rest, h (Element x ∷ rest), append_assoc part (x ∷ []) (before n rest))

comes_past : (n m : ℕ) (part : List ℕ) (c : List Item) → m ≢ n → Comes n part c → Comes n part (c ++ Barrier m ∷ [])
comes_past n m part c other h rest = grind (arith, common_steps, append_assoc c (Barrier m ∷ []) rest, h (Barrier m ∷ rest))

comes_at : (n : ℕ) (part : List ℕ) (c : List Item) → Comes n part c → Came n part (c ++ Barrier n ∷ [])
comes_at n part c h rest = grind (arith, common_steps, append_assoc c (Barrier n ∷ []) rest, h (Barrier n ∷ rest), append-nil part)

comes_at_end : (n : ℕ) (part : List ℕ) (c : List Item) → Comes n part c → Came n part (c ++ End ∷ [])
comes_at_end n part c h rest = grind (arith, common_steps, append_assoc c (End ∷ []) rest, h (End ∷ rest), append-nil part)

came_on : (n x : ℕ) (part : List ℕ) (c : List Item) → Came n part c → Came n part (c ++ Element x ∷ [])
came_on n x part c h rest = grind (arith, common_steps, append_assoc c (Element x ∷ []) rest, h (Element x ∷ rest))

-- Of an open input nothing was taken that stops a record that is not late. Of a held one the barrier of the latest record was taken, and
-- nothing that stops a later one. Of an ended one what was taken stops each record that is not late. While a record is recorded, the part
-- is what comes before its barrier.

abbrev pub OpenPart : Phase → ℕ → List ℕ → List Item → Type 0
OpenPart phase.Recording m part c = Comes m part c
OpenPart phase.Idle m part c = Unit {0}
OpenPart phase.Aligning m part c = Unit {0}

abbrev pub HeldPart : Phase → ℕ → List ℕ → List Item → Type 0
HeldPart phase.Recording m part c = Came m part c
HeldPart phase.Idle m part c = ⊥
HeldPart phase.Aligning m part c = Stops m c

abbrev pub EndedPart : Phase → ℕ → List ℕ → List Item → Type 0
EndedPart phase.Recording m part c = Came m part c
EndedPart phase.Idle m part c = Unit {0}
EndedPart phase.Aligning m part c = Unit {0}

abbrev pub FitsAs : Phase → ℕ → List ℕ → Input → List Item → Type 0
FitsAs p m part Open c = ((n : ℕ) → late p m n ≡ false → Runs n c) × OpenPart p m part c
FitsAs p m part Held c = HeldPart p m part c × ((n : ℕ) → m < n → Runs n c)
FitsAs p m part Ended c = ((n : ℕ) → late p m n ≡ false → Stops n c) × EndedPart p m part c

pub record Fits (j : ℕ) (r : Recorder) (all part : List ℕ) (c : List Item) : Type 0 where
  pub is_all : elements c ≡ all
  pub fits : (s : Input) → slice_get r.inputs j ≡ Some s → FitsAs r.phase r.latest part s c

pub opened_fits : (inputs j : ℕ) → Fits j (opened inputs) [] [] []
opened_fits inputs j = record { is_all = refl; fits = as_opened }
  where
    as_opened : (s : Input) → slice_get (opened inputs).inputs j ≡ Some s → FitsAs phase.Idle 0 [] s []
    as_opened Open e = (λ n late. runs_none n, tt)
    as_opened Held e = grind (arith, common_steps, get-replicate inputs j Open Held e)
    as_opened Ended e = grind (arith, common_steps, get-replicate inputs j Open Ended e)

-- once the record has ended

ended_as : (p : Phase) (m : ℕ) (part : List ℕ) (s : Input) (c : List Item) → FitsAs p m part s c → FitsAs phase.Idle m part (released s) c
ended_as p m part Open c h = (λ n l. h.0 n (not_late-greater p m n (idle_not_late m n l)), tt)
ended_as p m part Held c h = (λ n l. h.1 n (idle_not_late m n l), tt)
ended_as p m part Ended c h = (λ n l. h.0 n (not_late-greater p m n (idle_not_late m n l)), tt)

pub ended_fits : (j : ℕ) (r : Recorder) (all part : List ℕ) (c : List Item) → Fits j r all part c → Fits j (ended r) all part c
ended_fits j r all part c h = record { is_all = h.is_all; fits = as_ended }
  where
    as_ended : (s : Input) → slice_get (ended r).inputs j ≡ Some s → FitsAs phase.Idle r.latest part s c
    as_ended s e =
        let from = get-released r.inputs j s e in
        let As : Input → Type 0 = λ t. FitsAs phase.Idle r.latest part t c in
        subst As (sym from.2) (ended_as r.phase r.latest part from.0 c (h.fits from.0 from.1))

-- a barrier of a record that is not late

delivered_part : (p : Phase) (m n : ℕ) (part : List ℕ) (c : List Item) → late p m n ≡ false → (is_idle p ≡ false → n ≡ m) → FitsAs p m part Open c → HeldPart (begun p) n part (c ++ Barrier n ∷ [])
delivered_part phase.Idle m n part c l same h = stops_at n c (h.0 n l)
delivered_part phase.Aligning m n part c l same h = stops_at n c (h.0 n l)
delivered_part phase.Recording m n part c l same h =
    let At : ℕ → Type 0 = λ k. Came k part (c ++ Barrier k ∷ []) in
    subst At (sym (same refl)) (comes_at m part c h.1)

delivered_same : (p : Phase) (m n : ℕ) (part : List ℕ) (c : List Item) → late p m n ≡ false → (is_idle p ≡ false → n ≡ m) → FitsAs p m part Open c → FitsAs (begun p) n part Held (c ++ Barrier n ∷ [])
delivered_same p m n part c l same h =
    (delivered_part p m n part c l same h, λ k later. runs_past k n c (λ e. absurd (omega arith)) (h.0 k (not_late-above p m n k l (omega arith))))

delivered_other : (p : Phase) (m n : ℕ) (part : List ℕ) (s : Input) (c : List Item) → late p m n ≡ false → (is_idle p ≡ false → n ≡ m) → FitsAs p m part s c → FitsAs (begun p) n part s c
delivered_other phase.Idle m n part Open c l same h = (λ k e. h.0 k (not_late-above phase.Idle m n k l (busy_not_late n k e)), tt)
delivered_other phase.Idle m n part Held c l same h = absurd h.0
delivered_other phase.Idle m n part Ended c l same h = (λ k e. h.0 k (not_late-above phase.Idle m n k l (busy_not_late n k e)), tt)
delivered_other phase.Aligning m n part s c l same h = let At : ℕ → Type 0 = λ k. FitsAs phase.Aligning k part s c in subst At (sym (same refl)) h
delivered_other phase.Recording m n part s c l same h = let At : ℕ → Type 0 = λ k. FitsAs phase.Recording k part s c in subst At (sym (same refl)) h

pub delivered_fits-same : (i n : ℕ) (r : Recorder) (all part : List ℕ) (c : List Item) → is_late r n ≡ false → (is_idle r.phase ≡ false → n ≡ r.latest) → slice_get r.inputs i ≡ Some Open → Fits i r all part c
    → Fits i (delivered r i n) all part (c ++ Barrier n ∷ [])
delivered_fits-same i n r all part c l same at h = record { is_all = elements-append c (Barrier n ∷ []) ∙ append-nil (elements c) ∙ h.is_all; fits = as_delivered }
  where
    as_delivered : (s : Input) → slice_get (delivered r i n).inputs i ≡ Some s → FitsAs (begun r.phase) n part s (c ++ Barrier n ∷ [])
    as_delivered Held e = delivered_same r.phase r.latest n part c l same (h.fits Open at)
    as_delivered Open e = grind (arith, common_steps, get-set_same r.inputs i Open Held at)
    as_delivered Ended e = grind (arith, common_steps, get-set_same r.inputs i Open Held at)

pub delivered_fits-other : (i j n : ℕ) (r : Recorder) (all part : List ℕ) (c : List Item) → i ≢ j → is_late r n ≡ false → (is_idle r.phase ≡ false → n ≡ r.latest) → Fits j r all part c → Fits j (delivered r i n) all part c
delivered_fits-other i j n r all part c other l same h = record {
  is_all = h.is_all;
  fits = λ s e. delivered_other r.phase r.latest n part s c l same (h.fits s (sym (get-set_other r.inputs i j Held other) ∙ e));
}

-- one that is late

late_part : (p : Phase) (m n : ℕ) (part : List ℕ) (c : List Item) → late p m n ≡ true → OpenPart p m part c → OpenPart p m part (c ++ Barrier n ∷ [])
late_part phase.Idle m n part c l h = tt
late_part phase.Aligning m n part c l h = tt
late_part phase.Recording m n part c l h = comes_past m n part c (λ e. grind (arith, common_steps)) h

late_other : (p : Phase) (m n k : ℕ) → late p m n ≡ true → late p m k ≡ false → n ≢ k
late_other p m n k l e same = grind (arith, common_steps)

pub late_fits : (i n : ℕ) (r : Recorder) (all part : List ℕ) (c : List Item) → is_late r n ≡ true → slice_get r.inputs i ≡ Some Open → Fits i r all part c → Fits i r all part (c ++ Barrier n ∷ [])
late_fits i n r all part c l at h = record { is_all = elements-append c (Barrier n ∷ []) ∙ append-nil (elements c) ∙ h.is_all; fits = as_late }
  where
    as_late : (s : Input) → slice_get r.inputs i ≡ Some s → FitsAs r.phase r.latest part s (c ++ Barrier n ∷ [])
    as_late Open e = let its = h.fits Open at in (λ k not_late. runs_past k n c (late_other r.phase r.latest n k l not_late) (its.0 k not_late), late_part r.phase r.latest n part c l its.1)
    as_late Held e = grind (arith, common_steps)
    as_late Ended e = grind (arith, common_steps)

-- the end

ends_part : (p : Phase) (m : ℕ) (part : List ℕ) (c : List Item) → OpenPart p m part c → EndedPart p m part (c ++ End ∷ [])
ends_part phase.Idle m part c h = tt
ends_part phase.Aligning m part c h = tt
ends_part phase.Recording m part c h = comes_at_end m part c h

pub ends_fits-same : (i : ℕ) (r : Recorder) (all part : List ℕ) (c : List Item) → slice_get r.inputs i ≡ Some Open → Fits i r all part c → Fits i (with_input r i Ended) all part (c ++ End ∷ [])
ends_fits-same i r all part c at h = record { is_all = elements-append c (End ∷ []) ∙ append-nil (elements c) ∙ h.is_all; fits = as_ended }
  where
    as_ended : (s : Input) → slice_get (with_input r i Ended).inputs i ≡ Some s → FitsAs r.phase r.latest part s (c ++ End ∷ [])
    as_ended Ended e = let its = h.fits Open at in (λ n l. stops_at_end n c (its.0 n l), ends_part r.phase r.latest part c its.1)
    as_ended Open e = grind (arith, common_steps, get-set_same r.inputs i Open Ended at)
    as_ended Held e = grind (arith, common_steps, get-set_same r.inputs i Open Ended at)

pub ends_fits-other : (i j : ℕ) (r : Recorder) (all part : List ℕ) (c : List Item) → i ≢ j → Fits j r all part c → Fits j (with_input r i Ended) all part c
ends_fits-other i j r all part c other h = record { is_all = h.is_all; fits = λ s e. h.fits s (sym (get-set_other r.inputs i j Ended other) ∙ e) }

-- the record is whole, if it is

unfoldable pub settled_by : Recorder → Bool → Bool → Stepped
settled_by r idle left = if idle then (r, Ok Nothing) else (if left then (r, Ok Wait) else (ended r, Ok (whole r.phase r.latest)))

settled_by_fits : (j : ℕ) (r : Recorder) (all part : List ℕ) (c : List Item) (idle left : Bool) → Fits j r all part c → Fits j (settled_by r idle left).0 all part c
unfolding settled_by
settled_by_fits j r all part c true left h = h
settled_by_fits j r all part c false true h = h
settled_by_fits j r all part c false false h = ended_fits j r all part c h

pub settled_fits : (j : ℕ) (r : Recorder) (all part : List ℕ) (c : List Item) → Fits j r all part c → Fits j (settled r).0 all part c
unfolding settled settled_by
settled_fits j r all part c h = settled_by_fits j r all part c (is_idle r.phase) (list_any is_open r.inputs) h

-- an element

open_part : (p : Phase) (m x : ℕ) (part : List ℕ) (c : List Item) → is_recording p ≡ false → OpenPart p m part (c ++ Element x ∷ [])
open_part phase.Idle m x part c e = tt
open_part phase.Aligning m x part c e = tt
open_part phase.Recording m x part c e = grind (arith, common_steps)

record_part : (p : Phase) (m x : ℕ) (part : List ℕ) (c : List Item) → is_recording p ≡ true → OpenPart p m part c → OpenPart p m (part ++ x ∷ []) (c ++ Element x ∷ [])
record_part phase.Recording m x part c e h = comes_on m x part c h
record_part phase.Idle m x part c e h = tt
record_part phase.Aligning m x part c e h = tt

held_part : (p : Phase) (m x : ℕ) (part : List ℕ) (c : List Item) → is_recording p ≡ true → HeldPart p m part c → HeldPart p m part (c ++ Element x ∷ [])
held_part phase.Recording m x part c e h = came_on m x part c h
held_part phase.Idle m x part c e h = absurd h
held_part phase.Aligning m x part c e h = grind (arith, common_steps)

one_more : (c : List Item) (x : ℕ) (all : List ℕ) → elements c ≡ all → elements (c ++ Element x ∷ []) ≡ all ++ x ∷ []
one_more c x all e = elements-append c (Element x ∷ []) ∙ ap (λ xs. xs ++ x ∷ []) e

pub process_fits : (i x : ℕ) (r : Recorder) (all part : List ℕ) (c : List Item) → slice_get r.inputs i ≡ Some Open → is_recording r.phase ≡ false → Fits i r all part c → Fits i r (all ++ x ∷ []) part (c ++ Element x ∷ [])
process_fits i x r all part c at e h = record { is_all = one_more c x all h.is_all; fits = as_open }
  where
    as_open : (s : Input) → slice_get r.inputs i ≡ Some s → FitsAs r.phase r.latest part s (c ++ Element x ∷ [])
    as_open Open k = (λ n l. runs_on n c x ((h.fits Open at).0 n l), open_part r.phase r.latest x part c e)
    as_open Held k = grind (arith, common_steps)
    as_open Ended k = grind (arith, common_steps)

pub record_fits : (i x : ℕ) (r : Recorder) (all part : List ℕ) (c : List Item) → slice_get r.inputs i ≡ Some Open → is_recording r.phase ≡ true → Fits i r all part c → Fits i r (all ++ x ∷ []) (part ++ x ∷ []) (c ++ Element x ∷ [])
record_fits i x r all part c at e h = record { is_all = one_more c x all h.is_all; fits = as_open }
  where
    as_open : (s : Input) → slice_get r.inputs i ≡ Some s → FitsAs r.phase r.latest (part ++ x ∷ []) s (c ++ Element x ∷ [])
    as_open Open k = let its = h.fits Open at in (λ n l. runs_on n c x (its.0 n l), record_part r.phase r.latest x part c e its.1)
    as_open Held k = grind (arith, common_steps)
    as_open Ended k = grind (arith, common_steps)

pub pass_fits : (i x : ℕ) (r : Recorder) (all part : List ℕ) (c : List Item) → slice_get r.inputs i ≡ Some Held → is_recording r.phase ≡ true → Fits i r all part c → Fits i r (all ++ x ∷ []) part (c ++ Element x ∷ [])
pass_fits i x r all part c at e h = record { is_all = one_more c x all h.is_all; fits = as_held }
  where
    as_held : (s : Input) → slice_get r.inputs i ≡ Some s → FitsAs r.phase r.latest part s (c ++ Element x ∷ [])
    as_held Held k = let its = h.fits Held at in (held_part r.phase r.latest x part c e its.0, λ n l. runs_on n c x (its.1 n l))
    as_held Open k = grind (arith, common_steps)
    as_held Ended k = grind (arith, common_steps)

-- a record overtakes

overtakes_as : (p : Phase) (m n : ℕ) (all part : List ℕ) (s : Input) (c : List Item) → late p m n ≡ false → is_free_for p (n == m) ≡ true → elements c ≡ all → FitsAs p m part s c → FitsAs phase.Recording n (all ++ []) s c
overtakes_as phase.Idle m n all part Open c l free e h =
    (λ k f. h.0 k (not_late-above phase.Idle m n k l (busy_not_late n k f)), λ rest. h.0 n l rest ∙ ap (λ xs. xs ++ before n rest) (e ∙ sym (append-nil all)))
overtakes_as phase.Idle m n all part Held c l free e h = absurd h.0
overtakes_as phase.Idle m n all part Ended c l free e h =
    (λ k f. h.0 k (not_late-above phase.Idle m n k l (busy_not_late n k f)), λ rest. h.0 n l rest ∙ e ∙ sym (append-nil all))
overtakes_as phase.Aligning m n all part Open c l free e h =
    (λ k f. h.0 k (not_late-above phase.Aligning m n k l (busy_not_late n k f)), λ rest. h.0 n l rest ∙ ap (λ xs. xs ++ before n rest) (e ∙ sym (append-nil all)))
overtakes_as phase.Aligning m n all part Held c l free e h =
    let same : n ≡ m = grind (arith, common_steps) in
    let At : ℕ → Type 0 = λ k. FitsAs phase.Recording k (all ++ []) Held c in
    subst At (sym same) (λ rest. h.0 rest ∙ e ∙ sym (append-nil all), h.1)
overtakes_as phase.Aligning m n all part Ended c l free e h =
    (λ k f. h.0 k (not_late-above phase.Aligning m n k l (busy_not_late n k f)), λ rest. h.0 n l rest ∙ e ∙ sym (append-nil all))
overtakes_as phase.Recording m n all part s c l free e h = grind (arith, common_steps)

pub overtaken_fits : (j n : ℕ) (r : Recorder) (all part : List ℕ) (c : List Item) → is_late r n ≡ false → is_free_for r.phase (n == r.latest) ≡ true → Fits j r all part c → Fits j (overtaken r n) all (all ++ []) c
overtaken_fits j n r all part c l free h = record { is_all = h.is_all; fits = λ s e. overtakes_as r.phase r.latest n all part s c l free h.is_all (h.fits s e) }
