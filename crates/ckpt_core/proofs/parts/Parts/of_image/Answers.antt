-- Answers the goals of `Parts::of_image`.
use Rattle.ckpt_core.proofs.{can_hold_from, files_held, idle_held, idle_loaded, records_held, records_loaded, told, state_with_base, state_with_records}
use Rattle.ckpt_core.proofs.{rules, ◌≡◌, true, Err, [], map, sym, ap, subst, ◌∙◌, uses, Damaged, Parts, CanHold, record_in, state_in, emptied, state_of, IsSound, State, IsTold, after_files}
use Rattle.ckpt_core.proofs.parts.Parts.of_image.Goals as goal

pub load_all-requires-clause-none : goal.load_all-requires-clause-none
load_all-requires-clause-none c = (told c.in_ok-parts.parts (emptied (state_in c.args.image.now)) c.in_ok-parts.ensures.state).records

pub load_all-requires-clause-base : goal.load_all-requires-clause-base
load_all-requires-clause-base c = (told c.in_ok-parts.parts (emptied (state_in c.args.image.now)) c.in_ok-parts.ensures.state).base

pub returns-in_err-load_all-clause-damaged : goal.returns-in_err-load_all-clause-damaged
returns-in_err-load_all-clause-damaged c =
    λ h can. let m : State = state_in c.args.image.now in let same : map record_in c.deref.result.now ≡ m.records = ap (map record_in) c.deref.ensures.value in let bad : c.load_all.result ≡ Err
    Damaged = search rules in c.load_all.ensures.damaged bad (records_held m c.in_ok-parts.parts (map record_in c.deref.result.now) c.in_ok-parts.ensures.state same can.sound.records)

pub load_base-requires-clause-none : goal.load_base-requires-clause-none
load_base-requires-clause-none c = (told c.load_all.new.self _ (state_with_records c.args.image.now _ _ _ c.in_ok-parts.ensures.state c.deref.ensures.value c.in_ok-load_all.ensures.state)).base

pub returns-in_err-load_base-clause-damaged : goal.returns-in_err-load_base-clause-damaged
returns-in_err-load_base-clause-damaged c =
    λ h can. let loaded = state_with_records c.args.image.now _ _ _ c.in_ok-parts.ensures.state c.deref.ensures.value c.in_ok-load_all.ensures.state in let bad : c.load_base.result ≡ Err Damaged =
    search rules in c.load_base.ensures.damaged bad (λ id e. rw loaded (can.sound.base id e))

pub returns-then-not-is_idle-clause-damaged : goal.returns-then-not-is_idle-clause-damaged
returns-then-not-is_idle-clause-damaged c = λ h can.
    let based = state_with_base c.args.image.now _ _ _ _ c.in_ok-parts.ensures.state c.deref.ensures.value c.in_ok-load_all.ensures.state c.in_ok-load_base.ensures.state in
    c.is_idle.ensures.no c.if-not-is_idle.true (idle_held (state_in c.args.image.now) c.load_base.new.self (told c.load_base.new.self _ based) can.sound.idle)

pub load_files-requires-clause-none_waits : goal.load_files-requires-clause-none_waits
load_files-requires-clause-none_waits c =
    (told c.load_base.new.self _ (state_with_base c.args.image.now _ _ _ _ c.in_ok-parts.ensures.state c.deref.ensures.value c.in_ok-load_all.ensures.state c.in_ok-load_base.ensures.state)).waiting

pub load_files-requires-clause-none_taken : goal.load_files-requires-clause-none_taken
load_files-requires-clause-none_taken c =
    (told c.load_base.new.self _ (state_with_base c.args.image.now _ _ _ _ c.in_ok-parts.ensures.state c.deref.ensures.value c.in_ok-load_all.ensures.state c.in_ok-load_base.ensures.state)).taken

pub returns-in_err-load_files-clause-damaged : goal.returns-in_err-load_files-clause-damaged
returns-in_err-load_files-clause-damaged c = λ h can.
    let m : State = state_in c.args.image.now in
    let based = state_with_base c.args.image.now _ _ _ _ c.in_ok-parts.ensures.state c.deref.ensures.value c.in_ok-load_all.ensures.state c.in_ok-load_base.ensures.state in
    let bad : c.load_files.result ≡ Err Damaged = search rules in
    c.load_files.ensures.damaged bad (rw (c.in_ok-load_base.ensures.tied.uses_are ∙ ap uses (told c.load_base.new.self _ based).records) (files_held can))

-- once the files are loaded, each test has passed
based : (c : goal.In_ok-load_files) → state_of c.load_base.new.self ≡ record (state_in c.args.image.now) { waiting = []; taken = [] }
based c = state_with_base c.args.image.now _ _ _ _ c.in_ok-parts.ensures.state c.deref.ensures.value c.in_ok-load_all.ensures.state c.in_ok-load_base.ensures.state

held : (c : goal.In_ok-load_files) → CanHold (state_in c.args.image.now)
held c =
    let m : State = state_in c.args.image.now in
    let t : IsTold c.load_base.new.self (record m { waiting = []; taken = [] }) = told c.load_base.new.self _ (based c) in
    let loaded = state_with_records c.args.image.now _ _ _ c.in_ok-parts.ensures.state c.deref.ensures.value c.in_ok-load_all.ensures.state in
    can_hold_from m (c.has_sound_numbers.ensures.yes c.if-not-has_sound_numbers.false) c.recall_limits.ensures c.recall.ensures c.recall-2.ensures
    (records_loaded m c.in_ok-parts.parts (map record_in c.deref.result.now) c.in_ok-parts.ensures.state (ap (map record_in) c.deref.ensures.value) c.in_ok-load_all.ensures.sound)
    (λ id e. rw loaded at (c.in_ok-load_base.ensures.there id e)) (idle_loaded m c.load_base.new.self t (c.is_idle.ensures.yes c.if-not-is_idle.false))
    (rw (c.in_ok-load_base.ensures.tied.uses_are ∙ ap uses t.records) at c.in_ok-load_files.ensures.apart)

pub returns-clause-held : goal.returns-clause-held
returns-clause-held c = held c

pub returns-clause-sound : goal.returns-clause-sound
returns-clause-sound c =
    record {
      tied = c.in_ok-load_files.ensures.tied;
      sound = subst IsSound (sym (after_files (state_in c.args.image.now) c.load_base.new.self c.load_files.new.self (based c) c.in_ok-load_files.ensures.state)) (held c).sound;
      none_ended = c.in_ok-load_files.ensures.noted ∙ ap (λ (p : Parts). p.ended.items) c.load_base.ensures.rest ∙ c.in_ok-load_all.ensures.noted ∙ c.in_ok-parts.ensures.none_ended;
    }
