-- Answers the goals of `Logged::machine`.
use Rattle.ckpt_logged.proofs.Names.{◌≡◌, ℕ, true, false, List, [], ◌∷◌, ◌++◌, refl, sym, subst, ap, ◌∙◌, ◌⊎◌, arith, Some, ◌↔◌, Call, Ack, FileGone, IsIn, is_present, uses, IsUnused, State}
use Rattle.ckpt_logged.proofs.Names.{in_outbox, replay, AreCalls, NoneAgain, ack_of, along, deleted_by, handed_by, registered_by, refusal, IsSound, step, numbers_from, FencedCall, Make}
use Rattle.ckpt_logged.proofs.Names.{Machine, Fenced, core_calls, fenced_replay, AreFencedCalls, IsFenced, core_in, AreEvents, Event, IsWell, calls_in, calls_named, events_replay, Chronicle}
use Rattle.ckpt_logged.proofs.Names.{IsChronicle, calls_of, AreAccounted, AreAcknowledged, AreDeletedSafely, AreHandedOut, AreIssuedOnce, HaveOneTerm, IsBalanced, LeaksNone, NeverAgain}
use Rattle.ckpt_logged.proofs.Names.{OneOfEach, PinsHold, SavepointsStay, UsesNoMore, accounted_from, balance_from, flow_from, handed_before, handed_from, in_one_place, choice_stands}
use Rattle.ckpt_logged.proofs.Names.{pinned_from, calls-split, replay-append, savepoint_stays_along, takes_newest, replay_keeps, fenced_calls-split}
use Rattle.ckpt_logged.proofs.Asked.{events-split, reached_named, reaches, replay_named, replay_well}
use Rattle.ckpt_logged.proofs.Since.{acknowledged, one_of_each}
use Rattle.ckpt_terms.specs.declared.machine.Machine.TheVariants as machine
use Rattle.ckpt_logged.proofs.Asked as asked
use Rattle.ckpt_logged.proofs.logged.Logged.machine.Goals as goal

its : (c : goal.After-self) → IsChronicle c.args.self.now
its c = subst IsChronicle c.self.view_is c.self.invariant

its_core : (m : Machine) → IsWell m → IsSound (core_in m)
its_core (machine.Plain m) i = i
its_core (machine.Fenced m) i = i.core

calls_here : (c : goal.After-self) → AreCalls (calls_of c.args.self.now)
calls_here c = let k : Chronicle = c.args.self.now in (reaches k.begin k.events (its c).events).0

sound_here : (c : goal.After-self) → IsWell c.args.self.now.now
sound_here c = let k : Chronicle = c.args.self.now in subst IsWell (sym (its c).replay) (replay_well k.begin k.events (its c).events (its c).begin)

core_here : (c : goal.After-self) → core_in c.args.self.now.now ≡ replay (core_in c.args.self.now.begin) (calls_of c.args.self.now)
core_here c = let k : Chronicle = c.args.self.now in ap core_in (its c).replay ∙ (reaches k.begin k.events (its c).events).1

exactly_one_here : (c : goal.After-self) → OneOfEach (core_in c.args.self.now.now)
exactly_one_here c = one_of_each (core_in c.args.self.now.now) (its_core c.args.self.now.now (sound_here c))

balance_here : (c : goal.After-self) → IsBalanced c.args.self.now
balance_here c f =
    let k : Chronicle = c.args.self.now in
    rw (core_here c) (balance_from (core_in k.begin) (calls_of k) f (its_core k.begin (its c).begin) (calls_here c))

no_leak_here : (c : goal.After-self) → LeaksNone c.args.self.now
no_leak_here c f =
    let k : Chronicle = c.args.self.now in
    let m : State = core_in k.begin in
    let s : IsSound m = its_core k.begin (its c).begin in
    rw (core_here c) (omega (arith, balance_from m (calls_of k) f s (calls_here c), flow_from m (calls_of k) f s (calls_here c)))

-- since the beginning

first_sound : (c : goal.After-self) → IsSound (core_in c.args.self.now.begin)
first_sound c = its_core c.args.self.now.begin (its c).begin

acknowledgements_here : (c : goal.After-self) → AreAcknowledged c.args.self.now
acknowledgements_here c r h =
    let k : Chronicle = c.args.self.now in
    acknowledged (core_in k.begin) (calls_of k) (first_sound c) (calls_here c) r (subst (λ (n : State). IsIn r n.records) (core_here c) h)

savepoints_here : (c : goal.After-self) → SavepointsStay c.args.self.now
savepoints_here c before after split r there done savepoint never =
    let k : Chronicle = c.args.self.now in
    let both : AreCalls before × AreCalls after = calls-split before after (subst AreCalls split (calls_here c)) in
    subst (λ (n : State). IsIn r n.records) (sym (core_here c ∙ ap (replay (core_in k.begin)) split ∙ replay-append (core_in k.begin) before after))
    (savepoint_stays_along (replay (core_in k.begin) before) after r (replay_keeps (core_in k.begin) before both.0 (first_sound c)) both.1
    (record { there = there; done = done; savepoint = savepoint }) never)

pinned_here : (c : goal.After-self) → PinsHold c.args.self.now
pinned_here c before after call id now subtask fresh reused f split given among gone =
    let k : Chronicle = c.args.self.now in
    let both : AreCalls before × AreCalls (call ∷ after) = calls-split before (call ∷ after) (subst AreCalls split (calls_here c)) in
    let n : State = replay (core_in k.begin) before in
    let here : core_in k.now ≡ replay (step n call).0 after = core_here c ∙ ap (replay (core_in k.begin)) split ∙ replay-append (core_in k.begin) before (call ∷ after) in
    pinned_from n call after (replay_keeps (core_in k.begin) before both.0 (first_sound c)) both.1.0 both.1.1 id now subtask fresh reused f given among
    (subst (λ (m : State). refusal m (Ack now id subtask fresh reused) ≡ Some (FileGone f)) here gone)

accounted_here : (c : goal.After-self) → AreAccounted c.args.self.now
accounted_here c =
    let k : Chronicle = c.args.self.now in
    subst (λ (n : State). (f : ℕ) → IsIn f (along registered_by (core_in k.begin) (calls_of k)) → IsUnused n f → in_outbox n f ≡ false → IsIn f (along deleted_by (core_in k.begin) (calls_of k)))
    (sym (core_here c)) (accounted_from (core_in k.begin) (calls_of k) (first_sound c) (calls_here c))

handed_here : (c : goal.After-self) → AreHandedOut c.args.self.now
handed_here c none f =
    let k : Chronicle = c.args.self.now in
    let m : State = core_in k.begin in
    subst (λ (n : State). IsIn f (along handed_by m (calls_of k)) ↔ ((IsIn f (along registered_by m (calls_of k)) ⊎ (is_present (uses m.records) f ≡ true)) × IsUnused n f))
    (sym (core_here c)) (handed_from m (calls_of k) (first_sound c) (calls_here c) none f)

used_no_more_here : (c : goal.After-self) → UsesNoMore c.args.self.now
used_no_more_here c before after split none f h =
    let k : Chronicle = c.args.self.now in
    let m : State = core_in k.begin in
    let all : IsIn f (along handed_by m (calls_of k)) =
    subst (λ (calls : List Call). IsIn f (along handed_by m calls)) (sym split) (handed_before m before after f h) in
    ((handed_here c none f).0 all).1

-- a moment with names: what always holds then, the calls since, and the state now

is_fenced : (c : goal.After-self) (before after : List Event) (m : Fenced) → c.args.self.now.events ≡ before ++ after → events_replay c.args.self.now.begin before ≡ machine.Fenced m → IsFenced m
is_fenced c before after m split at =
    let k : Chronicle = c.args.self.now in
    let both : AreEvents before × AreEvents after = events-split before after (subst AreEvents split (its c).events) in
    subst IsWell at (replay_well k.begin before both.0 (its c).begin)

calls_since : (c : goal.After-self) (before after : List Event) → c.args.self.now.events ≡ before ++ after → AreEvents after
calls_since c before after split = (events-split before after (subst AreEvents split (its c).events)).1

now_is : (c : goal.After-self) (before after : List Event) (m : Fenced) → c.args.self.now.events ≡ before ++ after → events_replay c.args.self.now.begin before ≡ machine.Fenced m
    → c.args.self.now.now ≡ machine.Fenced (fenced_replay m (calls_named after))
now_is c before after m split at =
    let k : Chronicle = c.args.self.now in
    (its c).replay ∙ ap (events_replay k.begin) split ∙ asked.replay-append k.begin before after ∙ ap (λ (n : Machine). events_replay n after) at
    ∙ (replay_named m after (calls_since c before after split)).1

safe_here : (c : goal.After-self) → AreDeletedSafely c.args.self.now
safe_here c before after m split at f h =
    let calls : AreFencedCalls (calls_named after) = (replay_named m after (calls_since c before after split)).0 in
    subst (λ (n : Machine). IsUnused (core_in n) f) (sym (now_is c before after m split at))
    (c.deletions_are_safe.ensures m (calls_named after) (is_fenced c before after m split at) calls f h)

one_term_here : (c : goal.After-self) → HaveOneTerm c.args.self.now
one_term_here c before after m call between later id term now p split at these given taken =
    let ack : FencedCall = Make term (ack_of now id p) in
    let calls : AreFencedCalls (call ∷ (between ++ ack ∷ later)) = subst AreFencedCalls these (replay_named m after (calls_since c before after split)).0 in
    c.one_term.ensures m call between (is_fenced c before after m split at) calls.0 (fenced_calls-split between (ack ∷ later) calls.1).0 id term now p given taken

once_here : (c : goal.After-self) → AreIssuedOnce c.args.self.now
once_here c before after m split at =
    let calls : AreFencedCalls (calls_named after) = (replay_named m after (calls_since c before after split)).0 in
    (now_is c before after m split at, c.issued_once.ensures.sound m (calls_named after) (is_fenced c before after m split at) calls)

never_again_here : (c : goal.After-self) → NeverAgain c.args.self.now
never_again_here c m at =
    let k : Chronicle = c.args.self.now in
    let these : calls_of k ≡ core_calls m (calls_named k.events) = ap (λ (n : Machine). calls_in n k.events) at ∙ reached_named m k.events in
    subst (NoneAgain [] m.core) (sym these) (once_here c [] k.events m refl at).1.none_again

pub returns-clause-promised : goal.returns-clause-promised
returns-clause-promised c = record {
  replayed = (its c).replay;
  begin = (its c).begin;
  sound = sound_here c;
  calls = calls_here c;
  core = core_here c;
  exactly_one = exactly_one_here c;
  acknowledgements = acknowledgements_here c;
  numbers = numbers_from (core_in c.args.self.now.begin) (calls_of c.args.self.now);
  savepoints = savepoints_here c;
  choice = choice_stands (core_in c.args.self.now.now) (its_core c.args.self.now.now (sound_here c));
  latest = takes_newest (core_in c.args.self.now.now) (its_core c.args.self.now.now (sound_here c));
  pinned = pinned_here c;
  balance = balance_here c;
  no_leak = no_leak_here c;
  accounted = accounted_here c;
  outbox = in_one_place (core_in c.args.self.now.now) (its_core c.args.self.now.now (sound_here c));
  handed = handed_here c;
  used_no_more = used_no_more_here c;
  safe = safe_here c;
  one_term = one_term_here c;
  once = once_here c;
  never_again = never_again_here c;
}
