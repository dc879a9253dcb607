-- What a sink sealed up to a record is what it wrote before its snapshot; and so restarts from unaligned records are invisible.
use Rattle.ckpt_other_cuts.proofs.Names.{arith, lt_irrefl, ◌≡◌, ℕ, ◌<◌, ◌≤◌, Bool, true, false, nat_le, List, [], ◌∷◌, ◌++◌, ◌∙◌, refl, sym, ap, subst, if◌then◌else◌, map, inl, inr, ⊎_elim}
use Rattle.ckpt_other_cuts.proofs.Names.{◌&&◌, ◌||◌, ◌==◌, ◌⊎◌, eq-eqb, eqb-true, le-leb, lt-leb, or_left, or_right, common_steps, append-nil, append_assoc, map-append, SubtaskId, IsIn}
use Rattle.ckpt_other_cuts.proofs.Names.{same_subtask, same_subtask-Decides, IsIn-append_cases, IsIn-append_left, IsIn-append_right, Channel, Emitted, Move, Program, emitted, on_output}
use Rattle.ckpt_other_cuts.proofs.Names.{state, with_one, By, IsJob, IsPrefix, Job, Run, States, of, starts, states_after, Sink, Transaction, contents, published, up_to, written, of_here}
use Rattle.ckpt_other_cuts.proofs.Names.{of_there, contents-append, published_begins, published_up_to, on_output-append, HasPart, opened, AreStretches, Begin, Doing, Doings, Moves, Snaps}
use Rattle.ckpt_other_cuts.proofs.Names.{Stretch, before_snaps, begin_after, has_snapped, is_snap, kept_moves, moves, run_of_stretches, with_doing, AreResumes, Attempt, IsResume}
use Rattle.ckpt_other_cuts.proofs.Names.{ResumesInvisible, Sealing, sealed_more, sealing, snap_of, snaps_in, stretches}
use Rattle.ckpt_other_cuts.proofs.Resuming.{is_restored, not_snapped, prefix-behind, recorders_keep_channels, snapped, written-join}
use Rattle.ckpt_other_cuts.proofs.Snapping.{IsRising, part_was_said, said_rises}
use Rattle.ckpt_other_cuts.specs.Restarted as restarted
use Rattle.ckpt_other_cuts.proofs.Resuming as resuming
use Rattle.ckpt_other_cuts.specs.Resumed.{published_before, published_in}

-- LISTS

rising-split : (xs ys : List ℕ) → IsRising (xs ++ ys) → ((a b : ℕ) → IsIn a xs → IsIn b ys → a < b) × IsRising xs
rising-split [] ys h = (λ a b in_none in_ys. absurd in_none, tt)
rising-split (x ∷ xs) ys h =
    let rest = rising-split xs ys h.1 in (
      λ a b in_xs in_ys. ⊎_elim (λ (e : a ≡ x). subst (λ (k : ℕ). k < b) (sym e) (h.0 b (IsIn-append_right b xs ys in_ys))) (λ (more : IsIn a xs). rest.0 a b more in_ys) in_xs,
      (λ k in_xs. h.0 k (IsIn-append_left k xs ys in_xs), rest.1),
    )

abbrev id_of : Transaction → ℕ
id_of one = one.id

up_to-all : (n : ℕ) (ones : List Transaction) → ((k : ℕ) → IsIn k (map id_of ones) → k ≤ n) → up_to n ones ≡ ones
up_to-all n [] h = refl
up_to-all n (one ∷ ones) h =
    ap (λ b. if b then one ∷ up_to n ones else []) (le-leb one.id n (h one.id (inl refl))) ∙ ap (λ (l : List Transaction). one ∷ l) (up_to-all n ones (λ k has. h k (inr has)))

up_to-more : (n : ℕ) (ones : List Transaction) (one : Transaction) → n < one.id → up_to n (ones ++ one ∷ []) ≡ up_to n ones
up_to-more n [] one h = ap (λ b. if b then one ∷ [] else []) (lt-leb one.id n h)
up_to-more n (x ∷ ones) one h = ap (λ (l : List Transaction). if nat_le x.id n then x ∷ l else []) (up_to-more n ones one h)

-- A SINK'S SNAPSHOTS

ids_by : (job : Job) (from : States) (sink : Sink) (before : Doings) (what : Doing) (s : Sealing) (xs : List ℕ) → map id_of s.sealed ≡ xs
    → map id_of (sealed_more job from sink before what s).sealed ≡ xs ++ with_one (snap_of what) []
ids_by job from sink before (Moves m) s xs e = e ∙ sym (append-nil xs)
ids_by job from sink before (Snaps id) s xs e = map-append id_of s.sealed (record { id = id; content = s.open_one } ∷ []) ∙ ap (λ (ns : List ℕ). ns ++ id ∷ []) e

if_ids : (job : Job) (from : States) (sink : Sink) (before : Doings) (what : Doing) (same : Bool) → map id_of (sealing job from sink before).sealed ≡ snaps_in sink.task before
    → map id_of (if same then sealed_more job from sink before what (sealing job from sink before) else sealing job from sink before).sealed
    ≡ (if same then snaps_in sink.task before ++ with_one (snap_of what) [] else snaps_in sink.task before)
if_ids job from sink before what true e = ids_by job from sink before what (sealing job from sink before) (snaps_in sink.task before) e
if_ids job from sink before what false e = e

sealed_ids : (job : Job) (from : States) (sink : Sink) (doings : Doings) → map id_of (sealing job from sink doings).sealed ≡ snaps_in sink.task doings
sealed_ids job from sink [] = refl
sealed_ids job from sink (it ∷ before) = if_ids job from sink before it.what (same_subtask it.task sink.task) (sealed_ids job from sink before)

was_snapped_by : (n : ℕ) (what : Doing) (same before : Bool) (xs : List ℕ) → (IsIn n xs → before ≡ true) → IsIn n (if same then xs ++ with_one (snap_of what) [] else xs) → (before || (same && is_snap n what)) ≡ true
was_snapped_by n what false before xs so h = or_left before false (so h)
was_snapped_by n (Moves m) true before xs so h = or_left before false (so (subst (λ (l : List ℕ). IsIn n l) (append-nil xs) h))
was_snapped_by n (Snaps id) true before xs so h =
    ⊎_elim (λ (k : IsIn n xs). or_left before (id == n) (so k)) (λ (k : IsIn n (id ∷ [])). or_right before (id == n) (is_it k)) (IsIn-append_cases n xs (id ∷ []) h)
  where
    is_it : (n ≡ id) ⊎ ⊥ → (id == n) ≡ true
    is_it (inl e) = eq-eqb id n (sym e)
    is_it (inr none) = absurd none

was_snapped : (n : ℕ) (t : SubtaskId) (doings : Doings) → IsIn n (snaps_in t doings) → has_snapped n t doings ≡ true
was_snapped n t [] h = absurd h
was_snapped n t (it ∷ before) h = was_snapped_by n it.what (same_subtask it.task t) (has_snapped n t before) (snaps_in t before) (was_snapped n t before) h

-- what a sink has sealed, and has open, is all that it wrote
wrote_by : (job : Job) (from : States) (sink : Sink) (before : Doings) (what : Doing) (s : Sealing) → contents s.sealed ++ s.open_one ≡ written job from (moves before) sink
    → contents (sealed_more job from sink before what s).sealed ++ (sealed_more job from sink before what s).open_one ≡ written job from (with_doing sink.task what (moves before)) sink
wrote_by job from sink before (Moves m) s e =
    let p : Program = job.program sink.task in
    let ms : List Move = of sink.task (moves before) in
    let es : List Emitted = p.emits (state p (from sink.task) ms) m in
    sym (append_assoc (contents s.sealed) s.open_one (on_output sink.output es))
    ∙ ap (λ (l : List ℕ). l ++ on_output sink.output es) e
    ∙ sym (on_output-append sink.output (emitted p (from sink.task) ms) es)
    ∙ ap (λ (l : List Move). on_output sink.output (emitted p (from sink.task) l)) (sym (of_here sink.task (record { task = sink.task; what = m }) (moves before) refl))
wrote_by job from sink before (Snaps id) s e =
    append-nil (contents (s.sealed ++ record { id = id; content = s.open_one } ∷ []))
    ∙ contents-append s.sealed (record { id = id; content = s.open_one } ∷ [])
    ∙ ap (λ (l : List ℕ). contents s.sealed ++ l) (append-nil s.open_one)
    ∙ e

of_other : (t : SubtaskId) (it : By Doing) (run : Run) (what : Doing) → same_subtask it.task t ≡ false → of t (with_doing it.task what run) ≡ of t run
of_other t it run (Moves m) other = of_there t (record { task = it.task; what = m }) run other
of_other t it run (Snaps id) other = refl

if_wrote : (job : Job) (from : States) (sink : Sink) (it : By Doing) (before : Doings) (same : Bool) → same_subtask it.task sink.task ≡ same
    → contents (sealing job from sink before).sealed ++ (sealing job from sink before).open_one ≡ written job from (moves before) sink
    → let s : Sealing = if same then sealed_more job from sink before it.what (sealing job from sink before) else sealing job from sink before in
    contents s.sealed ++ s.open_one ≡ written job from (moves (it ∷ before)) sink
if_wrote job from sink it before true is e =
    wrote_by job from sink before it.what (sealing job from sink before) e
    ∙ ap (λ (t : SubtaskId). written job from (with_doing t it.what (moves before)) sink) (sym ((same_subtask-Decides it.task sink.task).0 is))
if_wrote job from sink it before false is e =
    e ∙ ap (λ (ms : List Move). on_output sink.output (emitted (job.program sink.task) (from sink.task) ms)) (sym (of_other sink.task it (moves before) it.what is))

wrote : (job : Job) (from : States) (sink : Sink) (doings : Doings) → contents (sealing job from sink doings).sealed ++ (sealing job from sink doings).open_one ≡ written job from (moves doings) sink
wrote job from sink [] = refl
wrote job from sink (it ∷ before) = if_wrote job from sink it before (same_subtask it.task sink.task) refl (wrote job from sink before)

-- UP TO A RECORD

abbrev up_to_record : ℕ → Job → States → Sink → Doings → List ℕ
up_to_record n job from sink doings = contents (up_to n (sealing job from sink doings).sealed)

-- at its snapshot a sink seals what it wrote before
seals_now : (n : ℕ) (job : Job) (from : States) (sink : Sink) (before : Doings) → IsRising (snaps_in sink.task before ++ n ∷ [])
    → contents (up_to n ((sealing job from sink before).sealed ++ record { id = n; content = (sealing job from sink before).open_one } ∷ [])) ≡ written job from (moves before) sink
seals_now n job from sink before rise =
    let s : Sealing = sealing job from sink before in
    let one : Transaction = record { id = n; content = s.open_one } in
    let ids : map id_of (s.sealed ++ one ∷ []) ≡ snaps_in sink.task before ++ n ∷ [] = map-append id_of s.sealed (one ∷ []) ∙ ap (λ (ns : List ℕ). ns ++ n ∷ []) (sealed_ids job from sink before) in
    let below : (k : ℕ) → IsIn k (snaps_in sink.task before ++ n ∷ []) → k ≤ n =
    λ k h. ⊎_elim (λ (has : IsIn k (snaps_in sink.task before)). least k n ((rising-split (snaps_in sink.task before) (n ∷ []) rise).0 k n has (inl refl))) (λ (has : IsIn k (n ∷ [])). same k n has)
    (IsIn-append_cases k (snaps_in sink.task before) (n ∷ []) h) in
    ap contents (up_to-all n (s.sealed ++ one ∷ []) (λ k h. below k (subst (λ (ns : List ℕ). IsIn k ns) ids h)))
    ∙ contents-append s.sealed (one ∷ [])
    ∙ ap (λ (l : List ℕ). contents s.sealed ++ l) (append-nil s.open_one)
    ∙ wrote job from sink before
  where
    least : (k n : ℕ) → k < n → k ≤ n
    least k n h = omega arith

    same : (k n : ℕ) → (k ≡ n) ⊎ ⊥ → k ≤ n
    same k n (inl e) = omega arith
    same k n (inr none) = absurd none

-- and what it seals later is of later records
stays_by : (n : ℕ) (job : Job) (from : States) (sink : Sink) (before : Doings) (what : Doing) (same : Bool)
    → IsRising (if same then snaps_in sink.task before ++ with_one (snap_of what) [] else snaps_in sink.task before) → IsIn n (snaps_in sink.task before)
    → contents (up_to n (if same then sealed_more job from sink before what (sealing job from sink before) else sealing job from sink before).sealed) ≡ up_to_record n job from sink before
stays_by n job from sink before what false rise has = refl
stays_by n job from sink before (Moves m) true rise has = refl
stays_by n job from sink before (Snaps id) true rise has =
    let s : Sealing = sealing job from sink before in
    ap contents (up_to-more n s.sealed (record { id = id; content = s.open_one }) ((rising-split (snaps_in sink.task before) (id ∷ []) rise).0 n id has (inl refl)))

rising_before : (xs : List ℕ) (what : Doing) (same : Bool) → IsRising (if same then xs ++ with_one (snap_of what) [] else xs) → IsRising xs
rising_before xs what true rise = (rising-split xs (with_one (snap_of what) []) rise).1
rising_before xs what false rise = rise

-- the number of a snapshot that was not there before is that of this one
now_by : (n : ℕ) (what : Doing) (same : Bool) (xs : List ℕ) → IsIn n (if same then xs ++ with_one (snap_of what) [] else xs) → IsIn n xs ⊎ ((same ≡ true) × (what ≡ Snaps n))
now_by n what false xs h = inl h
now_by n (Moves m) true xs h = inl (subst (λ (l : List ℕ). IsIn n l) (append-nil xs) h)
now_by n (Snaps id) true xs h = ⊎_elim (λ (k : IsIn n xs). inl k) (λ (k : IsIn n (id ∷ [])). is_it k) (IsIn-append_cases n xs (id ∷ []) h)
  where
    is_it : (n ≡ id) ⊎ ⊥ → IsIn n xs ⊎ ((true ≡ true) × (Snaps id ≡ Snaps n))
    is_it (inl e) = inr (refl, ap Snaps (sym e))
    is_it (inr none) = absurd none

same_written : (job : Job) (from : States) (sink : Sink) (run other : Run) → of sink.task run ≡ of sink.task other → written job from run sink ≡ written job from other sink
same_written job from sink run other e = ap (λ (ms : List Move). on_output sink.output (emitted (job.program sink.task) (from sink.task) ms)) e

if_same : (here : Bool) (run : Run) → run ≡ (if here then run else run)
if_same true run = refl
if_same false run = refl

in_by : (n : ℕ) (what : Doing) (same before : Bool) (xs : List ℕ) → (before ≡ true → IsIn n xs) → (before || (same && is_snap n what)) ≡ true → IsIn n (if same then xs ++ with_one (snap_of what) [] else xs)
in_by n what true true xs so e = IsIn-append_left n xs (with_one (snap_of what) []) (so refl)
in_by n what false true xs so e = so refl
in_by n (Snaps id) true false xs so e = IsIn-append_right n xs (id ∷ []) (inl (sym (eqb-true id n e)))
in_by n (Moves m) true false xs so e = grind (arith, common_steps)
in_by n what false false xs so e = grind (arith, common_steps)

snapped_in : (n : ℕ) (t : SubtaskId) (doings : Doings) → has_snapped n t doings ≡ true → IsIn n (snaps_in t doings)
snapped_in n t [] e = grind (arith, common_steps)
snapped_in n t (it ∷ before) e = in_by n it.what (same_subtask it.task t) (has_snapped n t before) (snaps_in t before) (snapped_in n t before) e

abbrev IsSealed : ℕ → Job → States → Sink → Doings → Type 0
IsSealed n job from sink doings = up_to_record n job from sink doings ≡ written job from (before_snaps n doings) sink

sealed_earlier : (n : ℕ) (job : Job) (from : States) (sink : Sink) (it : By Doing) (before : Doings) → IsRising (snaps_in sink.task (it ∷ before)) → IsIn n (snaps_in sink.task before) → IsSealed n job from sink before → IsSealed n job from sink (it ∷ before)
sealed_earlier n job from sink it before rise h more =
    stays_by n job from sink before it.what (same_subtask it.task sink.task) rise h
    ∙ more
    ∙ same_written job from sink (before_snaps n before) (before_snaps n (it ∷ before)) (sym (snapped n sink.task (it ∷ []) before (was_snapped n sink.task before h)))

sealed_now : (n : ℕ) (job : Job) (from : States) (sink : Sink) (it : By Doing) (before : Doings) (here : Bool) → same_subtask it.task sink.task ≡ true → it.what ≡ Snaps n → IsRising (snaps_in sink.task (it ∷ before)) → has_snapped n sink.task before ≡ here
    → IsSealed n job from sink (it ∷ before)
sealed_now n job from sink it before here same is rise e = by_here here e
  where
    xs : List ℕ
    xs = snaps_in sink.task before

    s : Sealing
    s = sealing job from sink before

    rises : IsRising (xs ++ n ∷ [])
    rises = subst (λ (w : Doing). IsRising (xs ++ with_one (snap_of w) [])) is (subst (λ (b : Bool). IsRising (if b then xs ++ with_one (snap_of it.what) [] else xs)) same rise)

    by_here : (b : Bool) → has_snapped n sink.task before ≡ b → IsSealed n job from sink (it ∷ before)
    by_here true f = absurd (lt_irrefl n ((rising-split xs (n ∷ []) rises).0 n n (snapped_in n sink.task before f) (inl refl)))
    by_here false f =
        ap (λ (b : Bool). contents (up_to n (if b then sealed_more job from sink before it.what s else s).sealed)) same
        ∙ ap (λ (w : Doing). contents (up_to n (sealed_more job from sink before w s).sealed)) is
        ∙ seals_now n job from sink before rises
        ∙ sym (same_written job from sink (before_snaps n before) (moves before) (not_snapped n sink.task before f))
        ∙ ap (λ (r : Run). written job from r sink) (if_same (has_snapped n it.task before) (before_snaps n before))
        ∙ ap (λ (w : Doing). written job from (if has_snapped n it.task before then before_snaps n before else with_doing it.task w (before_snaps n before)) sink) (sym is)

sealed_is : (n : ℕ) (job : Job) (from : States) (sink : Sink) (doings : Doings) → IsRising (snaps_in sink.task doings) → IsIn n (snaps_in sink.task doings) → IsSealed n job from sink doings
sealed_is n job from sink [] rise has = absurd has
sealed_is n job from sink (it ∷ before) rise has =
    ⊎_elim
    (λ h. sealed_earlier n job from sink it before rise h (sealed_is n job from sink before (rising_before (snaps_in sink.task before) it.what (same_subtask it.task sink.task) rise) h))
    (λ h. sealed_now n job from sink it before (has_snapped n sink.task before) h.0 h.1 rise refl)
    (now_by n it.what (same_subtask it.task sink.task) (snaps_in sink.task before) has)

-- ATTEMPTS

was_recorded : (job : Job) (b : Begin) (it : Attempt) → IsJob job → IsResume job b it → restarted.WasRecorded job b it.stretch
was_recorded job b it is resume =
    let its : (c : Channel) → IsIn c job.channels → HasPart it.stretch.record_id (it.network.task c.receiver) = λ c has. resume.has_parts c.receiver (is c has).1 in
    record {
      network = it.network;
      is_connected = resume.recorded.is_connected;
      in_order = resume.recorded.in_order;
      is_whole = its;
      gives_first = resume.recorded.gives_first;
      sends = resume.recorded.sends;
      takes = λ c has. resume.recorded.takes c has (its c has);
    }

are_stretches : (job : Job) (its : List Attempt) → IsJob job → AreResumes job its → AreStretches job (stretches its)
are_stretches job [] is k = tt
are_stretches job (it ∷ its) is k = let b : Begin = begin_after job (stretches its) in
    (are_stretches job its is k.0, k.1.recorded.is_run, recorders_keep_channels job b it.stretch (was_recorded job b it is k.1))

published_attempt : (job : Job) (b : Begin) (it : Attempt) (sink : Sink) → IsIn sink.task job.tasks → IsResume job b it
    → published_in job b.states it.stretch.doings sink (it.earlier ++ it.stretch.record_id ∷ []) ≡ written job b.states (kept_moves it.stretch) sink
published_attempt job b it sink has resume =
    let n : ℕ = it.stretch.record_id in
    let doings : Doings = it.stretch.doings in
    let same = resume.recorded.snaps sink.task has in
    published_up_to n it.earlier (sealing job b.states sink doings).sealed resume.none_later
    ∙ sealed_is n job b.states sink doings (subst IsRising (sym same) (said_rises (opened (it.network.task sink.task).inputs) (it.network.task sink.task).actions))
    (subst (λ (ns : List ℕ). IsIn n ns) (sym same) (part_was_said n (it.network.task sink.task) (resume.has_parts sink.task has)))

published_same : (job : Job) (its : List Attempt) (sink : Sink) → IsIn sink.task job.tasks → AreResumes job its → published_before job sink its ≡ restarted.published job sink (stretches its)
published_same job [] sink has k = refl
published_same job (it ∷ its) sink has k =
    let b : Begin = begin_after job (stretches its) in
    ap (λ (l : List ℕ). l ++ published_in job b.states it.stretch.doings sink (it.earlier ++ it.stretch.record_id ∷ [])) (published_same job its sink has k.0)
    ∙ ap (λ (l : List ℕ). restarted.published job sink (stretches its) ++ l) (published_attempt job b it sink has k.1)

published_now : (job : Job) (from : States) (doings : Doings) (sink : Sink) (completed : List ℕ) → IsPrefix (published_in job from doings sink completed) (written job from (moves doings) sink)
published_now job from doings sink completed =
    let s : Sealing = sealing job from sink doings in
    let part = published_begins completed s.sealed in
    (part.0 ++ s.open_one, sym (wrote job from sink doings) ∙ ap (λ (l : List ℕ). l ++ s.open_one) part.1 ∙ append_assoc (published completed s.sealed) part.0 s.open_one)

pub resumes_invisible : (job : Job) (its : List Attempt) (doings : Doings) → ResumesInvisible job its doings
resumes_invisible job its doings is are k =
    let ss : List Stretch = stretches its in
    let b : Begin = begin_after job ss in
    let past : Run = run_of_stretches ss in
    let stretched : AreStretches job ss = are_stretches job its is are in
    let whole = resuming.restarts_invisible job ss doings stretched k in
    let before = is_restored job ss stretched in
    let so_far : (sink : Sink) → IsIn sink.task job.tasks → published_before job sink its ≡ written job (starts job) past sink = λ sink has. published_same job its sink has are ∙ whole.was_published sink in
    record {
      is_run = whole.is_run;
      has_states = whole.has_states;
      has_channels = whole.has_channels;
      was_published = so_far;
      is_published = λ sink completed has.
          prefix-behind (published_before job sink its) (published_in job b.states doings sink completed) (written job b.states (moves doings) sink)
          (published_before job sink its ++ published_in job b.states doings sink completed) (written job (starts job) (moves doings ++ past) sink)
          refl
          (written-join job (starts job) (moves doings) past sink
          ∙ ap (λ xs. xs ++ written job (states_after job (starts job) past) (moves doings) sink) (sym (so_far sink has))
          ∙ ap (λ (f : States). published_before job sink its ++ written job f (moves doings) sink) (sym before.states))
          (published_now job b.states doings sink completed);
    }
