-- A durable coordinator with names is one that commits in groups.
use Rattle.ckpt_chain.proofs.Names.{◌≡◌, List, [], ◌∷◌, ◌++◌, map, take, refl, sym, ap, ◌∙◌, map-append, take-map, FencedAnswer, FencedCall, Machine, Fenced, fenced_replay, fenced_step}
use Rattle.ckpt_chain.proofs.Names.{Named, event_step, events_replay, AreOf, DurableIsGroup, turn_of}
use Rattle.ckpt_terms.specs.declared.machine.Machine.TheVariants as machine
use Rattle.ckpt_logged.specs.Events as logged
use Rattle.ckpt_durable.specs.Crashes.{AreEvents, Committed, Crashed, Event, Made, World, goes_on, happens, started}
use Rattle.ckpt_durable.specs.Groups as group

are_of-append : (rs us : List group.Receipt) (ones more : List (FencedCall × FencedAnswer)) → AreOf rs ones → AreOf us more → AreOf (rs ++ us) (ones ++ more)
are_of-append [] us [] more h k = k
are_of-append [] us (one ∷ ones) more h k = absurd h
are_of-append (r ∷ rs) us [] more h k = absurd h
are_of-append (r ∷ rs) us (one ∷ ones) more h k = (h.0, h.1, h.2, are_of-append rs us ones more h.3 k)

replay_named : (m : Fenced) (calls : List FencedCall) → events_replay (machine.Fenced m) (map Named calls) ≡ machine.Fenced (fenced_replay m calls)
replay_named m [] = refl
replay_named m (call ∷ calls) = replay_named (fenced_step m call).0 calls

-- what always holds
record Same (m : Fenced) (w : World) (g : group.World) : Type 0 where
  begin : g.life.begin ≡ machine.Fenced m
  cut : g.cut ≡ []
  kept : g.life.kept ≡ map Named w.life.kept
  loose : g.life.loose ≡ map Named w.life.loose
  now : g.life.now ≡ machine.Fenced w.life.now
  waiting : AreOf g.life.waiting w.life.waiting
  told : AreOf g.told w.told
  made : g.made ≡ map Named w.made

pushed : (calls : List FencedCall) (events : List logged.Event) (call : FencedCall) → events ≡ map Named calls → events ++ Named call ∷ [] ≡ map Named (calls ++ call ∷ [])
pushed calls events call is = ap (λ (xs : List logged.Event). xs ++ Named call ∷ []) is ∙ sym (map-append Named calls (call ∷ []))

step_same : (m : Fenced) (w : World) (g : group.World) (event : Event) → Same m w g → Same m (happens m w event) (group.happens g (turn_of event))
step_same m w g (Made call) h = record {
  begin = h.begin;
  cut = h.cut;
  kept = h.kept;
  loose = pushed w.life.loose g.life.loose call h.loose;
  now = ap (λ (k : Machine). event_step k (Named call)) h.now;
  waiting = are_of-append g.life.waiting (record { state = g.life.now; entry = Named call ∷ [] } ∷ []) w.life.waiting ((call, (fenced_step w.life.now call).1) ∷ []) h.waiting
      (w.life.now, ap (λ (k : Machine). record { state = k; entry = Named call ∷ [] }) h.now, refl, tt);
  told = h.told;
  made = pushed w.made g.made call h.made;
}
step_same m w g Committed h = record {
  begin = h.begin;
  cut = h.cut;
  kept = ap (λ (xs : List logged.Event). xs ++ g.life.loose) h.kept ∙ ap (λ (xs : List logged.Event). map Named w.life.kept ++ xs) h.loose ∙ sym (map-append Named w.life.kept w.life.loose);
  loose = refl;
  now = h.now;
  waiting = tt;
  told = are_of-append g.told g.life.waiting w.told w.life.waiting h.told h.waiting;
  made = h.made;
}
step_same m w g (Crashed n) h =
    let loose : take n g.life.loose ≡ map Named (take n w.life.loose) = ap (take n) h.loose ∙ take-map Named n w.life.loose in
    let device : g.life.kept ++ take n g.life.loose ≡ map Named (w.life.kept ++ take n w.life.loose) =
    ap (λ (xs : List logged.Event). xs ++ take n g.life.loose) h.kept
    ∙ ap (λ (xs : List logged.Event). map Named w.life.kept ++ xs) loose
    ∙ sym (map-append Named w.life.kept (take n w.life.loose)) in
    record {
      begin = h.begin;
      cut = h.cut;
      kept = h.kept;
      loose = loose;
      now = ap (λ (k : Machine). events_replay k (g.life.kept ++ take n g.life.loose)) h.begin ∙ ap (events_replay (machine.Fenced m)) device
          ∙ replay_named m (w.life.kept ++ take n w.life.loose);
      waiting = tt;
      told = h.told;
      made = h.made;
    }

goes_same : (m : Fenced) (w : World) (g : group.World) (events : List Event) → Same m w g → Same m (goes_on m w events) (group.goes_on g (map turn_of events))
goes_same m w g [] h = h
goes_same m w g (event ∷ events) h = goes_same m (happens m w event) (group.happens g (turn_of event)) events (step_same m w g event h)

begins_same : (m : Fenced) → Same m (started m) (group.started (machine.Fenced m))
begins_same m = record { begin = refl; cut = refl; kept = refl; loose = refl; now = refl; waiting = tt; told = tt; made = refl }

are_turns : (events : List Event) → AreEvents events → group.AreTurns (map turn_of events)
are_turns [] are = tt
are_turns (Made call ∷ events) are = (are.0, are_turns events are.1)
are_turns (Committed ∷ events) are = are_turns events are
are_turns (Crashed n ∷ events) are = are_turns events are

pub durable_is_group : (m : Fenced) (events : List Event) → DurableIsGroup m events
durable_is_group m events =
    let g : group.World = group.world (machine.Fenced m) (map turn_of events) in
    let h = goes_same m (started m) (group.started (machine.Fenced m)) events (begins_same m) in (
      record {
        now = h.now;
        synced = ap (λ (xs : List logged.Event). xs ++ g.life.kept) h.cut ∙ h.kept;
        loose = h.loose;
        told = h.told;
        made = h.made;
      },
      are_turns events,
    )
