-- Receipts that are of places of a list, in order.
use Rattle.ckpt_durable.proofs.Names.{◌≡◌, List, [], ◌∷◌, ◌++◌, sym, ap, ◌∙◌, subst, append_assoc, Machine, machine_settled, events_replay, replay-append, Receipt, StandAs}
use Rattle.ckpt_logged.specs.Events.{Event}

-- but for the order of the fetched files
abbrev pub Stand : Machine → List Event → List Receipt → Type 0
Stand = StandAs machine_settled

-- where one stands, and what stands behind it
abbrev Rest : (Machine → Machine) → Machine → List Event → Receipt → List Receipt → Type 0
Rest seen m events r rs =
    (before : List Event) × (after : List Event)
    × (events ≡ before ++ (r.entry ++ after))
    × (seen r.state ≡ seen (events_replay m before))
    × StandAs seen (events_replay (events_replay m before) r.entry) after rs

-- behind a list that has none of them
stand_behind : (seen : Machine → Machine) (m : Machine) (events more : List Event) (rs : List Receipt) → StandAs seen (events_replay m events) more rs → StandAs seen m (events ++ more) rs
stand_behind seen m events more [] h = tt
stand_behind seen m events more (r ∷ rs) h =
    let before : List Event = h.0 in
    let after : List Event = h.1 in
    let here : events_replay (events_replay m events) before ≡ events_replay m (events ++ before) = sym (replay-append m events before) in (
      events ++ before,
      after,
      ap (λ (xs : List Event). events ++ xs) h.2 ∙ sym (append_assoc events before (r.entry ++ after)),
      h.3 ∙ ap seen here,
      subst (λ (k : Machine). StandAs seen (events_replay k r.entry) after rs) here h.4,
    )

-- the state behind the whole list, by way of one place
replay_through : (m : Machine) (events : List Event) (r : Receipt) (before after : List Event) → events ≡ before ++ (r.entry ++ after)
    → events_replay m events ≡ events_replay (events_replay (events_replay m before) r.entry) after
replay_through m events r before after is =
    ap (events_replay m) is ∙ replay-append m before (r.entry ++ after) ∙ replay-append (events_replay m before) r.entry after

-- two lists, one after the other
pub stand_then : (seen : Machine → Machine) (m : Machine) (events more : List Event) (rs us : List Receipt) → StandAs seen m events rs → StandAs seen (events_replay m events) more us
    → StandAs seen m (events ++ more) (rs ++ us)
stand_then seen m events more [] us h k = stand_behind seen m events more us k
stand_then seen m events more (r ∷ rs) us h k =
    let before : List Event = h.0 in
    let after : List Event = h.1 in (
      before,
      after ++ more,
      ap (λ (xs : List Event). xs ++ more) h.2 ∙ append_assoc before (r.entry ++ after) more ∙ ap (λ (xs : List Event). before ++ xs) (append_assoc r.entry after more),
      h.3,
      stand_then seen (events_replay (events_replay m before) r.entry) after more rs us h.4
          (subst (λ (n : Machine). StandAs seen n more us) (replay_through m events r before after h.2) k),
    )

-- one of them, behind some others
pub stand_at : (seen : Machine → Machine) (m : Machine) (events : List Event) (xs rs : List Receipt) (r : Receipt) → StandAs seen m events (xs ++ r ∷ rs) → Rest seen m events r rs
stand_at seen m events [] rs r h = h
stand_at seen m events (x ∷ xs) rs r h =
    let before : List Event = h.0 in
    let after : List Event = h.1 in
    let rest : Rest seen (events_replay (events_replay m before) x.entry) after r rs = stand_at seen (events_replay (events_replay m before) x.entry) after xs rs r h.4 in
    let start : List Event = before ++ x.entry in
    let here : events_replay (events_replay (events_replay m before) x.entry) rest.0 ≡ events_replay m (start ++ rest.0) =
    ap (λ (k : Machine). events_replay k rest.0) (sym (replay-append m before x.entry)) ∙ sym (replay-append m start rest.0) in (
      start ++ rest.0,
      rest.1,
      h.2 ∙ sym (append_assoc before x.entry after) ∙ ap (λ (ys : List Event). start ++ ys) rest.2 ∙ sym (append_assoc start rest.0 (r.entry ++ rest.1)),
      rest.3 ∙ ap seen here,
      subst (λ (k : Machine). StandAs seen (events_replay k r.entry) rest.1 rs) here rest.4,
    )

-- two of them: each state is seen as a replay, the later one as that of what was asked since the earlier one
abbrev pub Two : (Machine → Machine) → Receipt → Receipt → Type 0
Two seen r late =
    (state : Machine) × (between : List Event) × (seen r.state ≡ seen state) × (seen late.state ≡ seen (events_replay (events_replay state r.entry) between))

pub stand_two : (seen : Machine → Machine) (m : Machine) (events : List Event) (xs ys zs : List Receipt) (r late : Receipt) → StandAs seen m events (xs ++ (r ∷ (ys ++ late ∷ zs)))
    → Two seen r late
stand_two seen m events xs ys zs r late h =
    let first : Rest seen m events r (ys ++ late ∷ zs) = stand_at seen m events xs (ys ++ late ∷ zs) r h in
    let here : Machine = events_replay m first.0 in
    let next : Rest seen (events_replay here r.entry) first.1 late zs = stand_at seen (events_replay here r.entry) first.1 ys zs late first.4 in
    (here, next.0, first.3, next.3)
