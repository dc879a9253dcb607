-- What always holds of a coordinator that commits in groups, its device and its callers.
use Rattle.ckpt_durable.proofs.Names.{◌≡◌, ℕ, zero, suc, ◌+◌, ◌<◌, ◌≤◌, true, List, [], ◌∷◌, ◌++◌, take, refl, sym, ap, ◌∙◌, subst, append_assoc, append-nil, take-append-drop, arith, drop}
use Rattle.ckpt_durable.proofs.Names.{⊤, Answer, IsUnused, State, FencedCall, Make, Reserve, Machine, Fenced, fenced_step, fenced_replay, has_ended, AreFencedAlike, machine_settled}
use Rattle.ckpt_durable.proofs.Names.{deletions_are_safe, Fence, IsWell, Named, Plain, calls_named, event_step, events_replay, named_as, events-split, replay-append, replay-push}
use Rattle.ckpt_durable.proofs.Names.{replay_named, replay_well, IsWithin, AreTurns, HaveNoImage, IsDurableAs, IsExact, Receipt, StandAs, Turn, Looked, Imaged, synced}
use Rattle.ckpt_durable.proofs.Alike.{AreMachinesAlike, alike_named, image_alike, same_core, same_deletable, step_alike}
use Rattle.ckpt_durable.proofs.{Lists.within_both, Lists.within_itself, Lists.within_take, Lists.within_then, NamesOnce.gives, NamesOnce.names_rise, TermsOnce.has_term, TermsOnce.tells}
use Rattle.ckpt_durable.proofs.{TermsOnce.term_in, TermsOnce.terms_rise, Standing.Stand, Standing.Two, Standing.stand_at, Standing.stand_then, Standing.stand_two}
use Rattle.ckpt_terms.specs.declared.call.FencedAnswer.TheVariants as answer
use Rattle.ckpt_terms.specs.declared.machine.Machine.TheVariants as machine
use Rattle.ckpt_logged.specs.Events.{AreEvents, Event}
use Rattle.ckpt_durable.specs.Groups.{BeginsTermsOnce, GivesNamesOnce, IsDurable, KeepsAll, ReadsAreSafe}
use Rattle.ckpt_durable.specs.Groups.{Made, Committed, Crashed, UsesNoneAgain, World, goes_on, happens, started, world}

-- A view of coordinators in which those that are seen alike stay so.
record IsSeen (seen : Machine → Machine) : Type 0 where
  steps : (k n : Machine) (event : Event) → seen k ≡ seen n → seen (event_step k event) ≡ seen (event_step n event)

replay_seen : (seen : Machine → Machine) → IsSeen seen → (k n : Machine) (events : List Event) → seen k ≡ seen n → seen (events_replay k events) ≡ seen (events_replay n events)
replay_seen seen i k n [] e = e
replay_seen seen i k n (event ∷ events) e = replay_seen seen i (event_step k event) (event_step n event) events (i.steps k n event e)

-- a turn that it shows: an image is seen as what it is made of
abbrev Shows : (Machine → Machine) → Turn → Type 0
Shows seen (Imaged n) = (k : Machine) → seen (machine_settled k) ≡ seen k
Shows seen turn = ⊤

abbrev ShowsAll : (Machine → Machine) → List Turn → Type 0
ShowsAll seen [] = ⊤
ShowsAll seen (turn ∷ turns) = Shows seen turn × ShowsAll seen turns

-- what is durable, and that what waits is of places of the loose part
record Holds (seen : Machine → Machine) (m : Machine) (w : World) : Type 0 where
  begin : seen w.life.begin ≡ seen (events_replay m w.cut)
  now : seen w.life.now ≡ seen (events_replay m (synced w ++ w.life.loose))
  told : StandAs seen m (synced w) w.told
  waiting : StandAs seen (events_replay m (synced w)) w.life.loose w.life.waiting
  made : IsWithin (synced w ++ w.life.loose) w.made

-- what is recovered with these entries behind the synced ones
found : (seen : Machine → Machine) (m : Machine) (w : World) (more : List Event) → IsSeen seen → Holds seen m w
    → seen (events_replay w.life.begin (w.life.kept ++ more)) ≡ seen (events_replay m (synced w ++ more))
found seen m w more i h =
    replay_seen seen i w.life.begin (events_replay m w.cut) (w.life.kept ++ more) h.begin
    ∙ ap seen (sym (replay-append m w.cut (w.life.kept ++ more)) ∙ ap (events_replay m) (sym (append_assoc w.cut w.life.kept more)))

-- one more, read or asked, in the state of now
waits : (seen : Machine → Machine) (m : Machine) (w : World) (entry : List Event) → Holds seen m w
    → StandAs seen (events_replay m (synced w)) (w.life.loose ++ entry) (w.life.waiting ++ record { state = w.life.now; entry = entry } ∷ [])
waits seen m w entry h =
    stand_then seen (events_replay m (synced w)) w.life.loose entry w.life.waiting (record { state = w.life.now; entry = entry } ∷ []) h.waiting
    ([], [], sym (append-nil entry), h.now ∙ ap seen (replay-append m (synced w) w.life.loose), tt)

step_holds : (seen : Machine → Machine) (m : Machine) (w : World) (turn : Turn) → IsSeen seen → Shows seen turn → Holds seen m w → Holds seen m (happens w turn)
step_holds seen m w (Made event) i shows h =
    let longer : (synced w ++ w.life.loose) ++ event ∷ [] ≡ synced w ++ (w.life.loose ++ event ∷ []) = append_assoc (synced w) w.life.loose (event ∷ []) in
    record {
      begin = h.begin;
      now = i.steps w.life.now (events_replay m (synced w ++ w.life.loose)) event h.now
          ∙ ap seen (sym (replay-push m (synced w ++ w.life.loose) event) ∙ ap (events_replay m) longer);
      told = h.told;
      waiting = waits seen m w (event ∷ []) h;
      made = subst (λ (xs : List Event). IsWithin xs (w.made ++ event ∷ [])) longer
          (within_both (synced w ++ w.life.loose) w.made (event ∷ []) (event ∷ []) h.made (within_itself (event ∷ [])));
    }
step_holds seen m w Looked i shows h = record {
  begin = h.begin;
  now = h.now;
  told = h.told;
  waiting = subst (λ (xs : List Event). StandAs seen (events_replay m (synced w)) xs (w.life.waiting ++ record { state = w.life.now; entry = [] } ∷ []))
      (append-nil w.life.loose) (waits seen m w [] h);
  made = h.made;
}
step_holds seen m w Committed i shows h =
    let all : synced w ++ w.life.loose ≡ w.cut ++ (w.life.kept ++ w.life.loose) = append_assoc w.cut w.life.kept w.life.loose in
    let whole : synced w ++ w.life.loose ≡ (w.cut ++ (w.life.kept ++ w.life.loose)) ++ [] = all ∙ sym (append-nil (w.cut ++ (w.life.kept ++ w.life.loose))) in
    record {
      begin = h.begin;
      now = h.now ∙ ap (λ (xs : List Event). seen (events_replay m xs)) whole;
      told = subst (λ (xs : List Event). StandAs seen m xs (w.told ++ w.life.waiting)) all
          (stand_then seen m (synced w) w.life.loose w.told w.life.waiting h.told h.waiting);
      waiting = tt;
      made = subst (λ (xs : List Event). IsWithin xs w.made) whole h.made;
    }
step_holds seen m w (Imaged n) i shows h =
    let first : List Event = take n w.life.kept in
    let rest : List Event = drop n w.life.kept in
    let same : synced w ≡ (w.cut ++ first) ++ rest =
    ap (λ (xs : List Event). w.cut ++ xs) (sym (take-append-drop n w.life.kept)) ∙ sym (append_assoc w.cut first rest) in
    record {
      begin = shows (events_replay w.life.begin first) ∙ replay_seen seen i w.life.begin (events_replay m w.cut) first h.begin
          ∙ ap seen (sym (replay-append m w.cut first));
      now = h.now ∙ ap (λ (xs : List Event). seen (events_replay m (xs ++ w.life.loose))) same;
      told = subst (λ (xs : List Event). StandAs seen m xs w.told) same h.told;
      waiting = subst (λ (xs : List Event). StandAs seen (events_replay m xs) w.life.loose w.life.waiting) same h.waiting;
      made = subst (λ (xs : List Event). IsWithin (xs ++ w.life.loose) w.made) same h.made;
    }
step_holds seen m w (Crashed n) i shows h = record {
  begin = h.begin;
  now = found seen m w (take n w.life.loose) i h;
  told = h.told;
  waiting = tt;
  made = within_then (synced w ++ take n w.life.loose) (synced w ++ w.life.loose) w.made
      (within_both (synced w) (synced w) (take n w.life.loose) w.life.loose (within_itself (synced w)) (within_take n w.life.loose)) h.made;
}

on_holds : (seen : Machine → Machine) (m : Machine) (w : World) (turns : List Turn) → IsSeen seen → ShowsAll seen turns → Holds seen m w → Holds seen m (goes_on w turns)
on_holds seen m w [] i shows h = h
on_holds seen m w (turn ∷ turns) i shows h = on_holds seen m (happens w turn) turns i shows.1 (step_holds seen m w turn i shows.0 h)

its_world : (seen : Machine → Machine) (m : Machine) (turns : List Turn) → IsSeen seen → ShowsAll seen turns → Holds seen m (world m turns)
its_world seen m turns i shows = on_holds seen m (started m) turns i shows (record { begin = refl; now = refl; told = tt; waiting = tt; made = tt })

durable_as : (seen : Machine → Machine) (m : Machine) (w : World) → IsSeen seen → Holds seen m w → IsDurableAs seen m w
durable_as seen m w i h = record { begin = h.begin; recovers = h.now ∙ sym (found seen m w w.life.loose i h); now = h.now; told = h.told; made = h.made }

-- all but the order of the fetched files, with images

in_order : IsSeen machine_settled
in_order = record { steps = step_alike }

shows_turn : (turn : Turn) → Shows machine_settled turn
shows_turn (Made event) = tt
shows_turn Looked = tt
shows_turn Committed = tt
shows_turn (Imaged n) = image_alike
shows_turn (Crashed n) = tt

shows_all : (turns : List Turn) → ShowsAll machine_settled turns
shows_all [] = tt
shows_all (turn ∷ turns) = (shows_turn turn, shows_all turns)

settled_world : (m : Machine) (turns : List Turn) → Holds machine_settled m (world m turns)
settled_world m turns = its_world machine_settled m turns in_order (shows_all turns)

pub groups_durable : (m : Machine) (turns : List Turn) → IsDurable m (world m turns)
groups_durable m turns = durable_as machine_settled m (world m turns) in_order (settled_world m turns)

-- that order too, without

shows_itself : (turns : List Turn) → HaveNoImage turns → ShowsAll (λ k. k) turns
shows_itself [] none = tt
shows_itself (Made event ∷ turns) none = (tt, shows_itself turns none)
shows_itself (Looked ∷ turns) none = (tt, shows_itself turns none)
shows_itself (Committed ∷ turns) none = (tt, shows_itself turns none)
shows_itself (Imaged n ∷ turns) none = absurd none
shows_itself (Crashed n ∷ turns) none = (tt, shows_itself turns none)

pub groups_exact : (m : Machine) (turns : List Turn) → IsExact m turns
groups_exact m turns none =
    let i : IsSeen (λ (k : Machine). k) = record { steps = λ k n event e. ap (λ (j : Machine). event_step j event) e } in
    durable_as (λ (k : Machine). k) m (world m turns) i (its_world (λ (k : Machine). k) m turns i (shows_itself turns none))

pub groups_keep_all : (w : World) (later : List Turn) → KeepsAll w later
groups_keep_all w [] = ([], sym (append-nil (synced w)))
groups_keep_all w (Made event ∷ later) = groups_keep_all (happens w (Made event)) later
groups_keep_all w (Looked ∷ later) = groups_keep_all (happens w Looked) later
groups_keep_all w (Committed ∷ later) =
    let rest = groups_keep_all (happens w Committed) later in (
      w.life.loose ++ rest.0,
      rest.1 ∙ ap (λ (xs : List Event). xs ++ rest.0) (sym (append_assoc w.cut w.life.kept w.life.loose)) ∙ append_assoc (synced w) w.life.loose rest.0,
    )
groups_keep_all w (Imaged n ∷ later) =
    let rest = groups_keep_all (happens w (Imaged n)) later in
    let same : (w.cut ++ take n w.life.kept) ++ drop n w.life.kept ≡ synced w =
    append_assoc w.cut (take n w.life.kept) (drop n w.life.kept) ∙ ap (λ (xs : List Event). w.cut ++ xs) (take-append-drop n w.life.kept) in
    (rest.0, rest.1 ∙ ap (λ (xs : List Event). xs ++ rest.0) same)
groups_keep_all w (Crashed n ∷ later) = groups_keep_all (happens w (Crashed n)) later

-- what was asked is of a valid shape

events_join : (xs ys : List Event) → AreEvents xs → AreEvents ys → AreEvents (xs ++ ys)
events_join [] ys a b = b
events_join (x ∷ xs) ys a b = (a.0, events_join xs ys a.1 b)

events_take : (n : ℕ) (xs : List Event) → AreEvents xs → AreEvents (take n xs)
events_take zero xs a = tt
events_take (suc n) [] a = tt
events_take (suc n) (x ∷ xs) a = (a.0, events_take n xs a.1)

on_events : (w : World) (turns : List Turn) → AreTurns turns → AreEvents (synced w) → AreEvents w.life.loose
    → AreEvents (synced (goes_on w turns)) × AreEvents (goes_on w turns).life.loose
on_events w [] e a b = (a, b)
on_events w (Made event ∷ turns) e a b = on_events (happens w (Made event)) turns e.1 a (events_join w.life.loose (event ∷ []) b (e.0, tt))
on_events w (Looked ∷ turns) e a b = on_events (happens w Looked) turns e a b
on_events w (Committed ∷ turns) e a b =
    on_events (happens w Committed) turns e (subst AreEvents (append_assoc w.cut w.life.kept w.life.loose) (events_join (synced w) w.life.loose a b)) tt
on_events w (Imaged n ∷ turns) e a b =
    let same : synced w ≡ (w.cut ++ take n w.life.kept) ++ drop n w.life.kept =
    ap (λ (xs : List Event). w.cut ++ xs) (sym (take-append-drop n w.life.kept)) ∙ sym (append_assoc w.cut (take n w.life.kept) (drop n w.life.kept)) in
    on_events (happens w (Imaged n)) turns e (subst AreEvents same a) b
on_events w (Crashed n ∷ turns) e a b = on_events (happens w (Crashed n)) turns e a (events_take n w.life.loose b)

pub groups_use_none_again : (m : Machine) (turns later : List Turn) → IsWell m → AreTurns turns → AreTurns later → UsesNoneAgain m turns later
groups_use_none_again m turns later i t l before after n f is at gone =
    let w : World = world m turns in
    let v : World = goes_on w later in
    let more = groups_keep_all w later in
    let rest : List Event = (after ++ more.0) ++ v.life.loose in
    let whole : synced v ++ v.life.loose ≡ before ++ rest =
    ap (λ (xs : List Event). xs ++ v.life.loose) (more.1 ∙ ap (λ (xs : List Event). xs ++ more.0) is ∙ append_assoc before after more.0)
    ∙ append_assoc before (after ++ more.0) v.life.loose in
    let first = on_events (started m) turns t tt tt in
    let last = on_events w later l first.0 first.1 in
    let each : AreEvents before × AreEvents rest = events-split before rest (subst AreEvents whole (events_join (synced v) v.life.loose last.0 last.1)) in
    let named = replay_named n rest each.1 in
    let now : AreMachinesAlike v.life.now (machine.Fenced (fenced_replay n (calls_named rest))) =
    (on_holds machine_settled m w later in_order (shows_all later) (settled_world m turns)).now
    ∙ ap machine_settled (ap (events_replay m) whole ∙ replay-append m before rest ∙ ap (λ (k : Machine). events_replay k rest) at ∙ named.1) in
    let unused : IsUnused (fenced_replay n (calls_named rest)).core f =
    deletions_are_safe n (calls_named rest) (subst IsWell at (replay_well m before each.0 i)) named.0 f gone in
    subst (λ (k : State). IsUnused k f) (sym (same_core v.life.now (machine.Fenced (fenced_replay n (calls_named rest))) now)) unused

-- what is seen as a coordinator with names has names
named_like : (n : Fenced) (k : Machine) → AreMachinesAlike (machine.Fenced n) k → (its : Fenced) × (k ≡ machine.Fenced its) × AreFencedAlike n its
named_like n (machine.Plain k) e = absurd cc
named_like n (machine.Fenced k) e = (k, refl, alike_named n k e)

pub group_reads_are_safe : (m : Machine) (turns later : List Turn) → IsWell m → AreTurns turns → AreTurns later → ReadsAreSafe m turns later
group_reads_are_safe m turns later i t l xs ys r n f told at gone =
    let w : World = world m turns in
    let here = stand_at machine_settled m (synced w) xs ys r (subst (Stand m (synced w)) told (settled_world m turns).told) in
    let its = named_like n (events_replay m here.0) (ap machine_settled (sym at) ∙ here.3) in
    groups_use_none_again m turns later i t l here.0 (r.entry ++ here.1) its.0 f here.2 its.1 (sym (same_deletable n its.0 f its.2) ∙ gone)

-- of two receipts that were told, the later one's state is as the replay of what was asked since the earlier one
since_told : (m : Machine) (turns : List Turn) (xs ys zs : List Receipt) (r late : Receipt) → (world m turns).told ≡ xs ++ (r ∷ (ys ++ late ∷ zs))
    → (between : List Event) × AreMachinesAlike late.state (events_replay (events_replay r.state r.entry) between)
since_told m turns xs ys zs r late told =
    let w : World = world m turns in
    let two : Two machine_settled r late = stand_two machine_settled m (synced w) xs ys zs r late (subst (Stand m (synced w)) told (settled_world m turns).told) in
    let behind : AreMachinesAlike (events_replay two.0 r.entry) (events_replay r.state r.entry) = replay_seen machine_settled in_order two.0 r.state r.entry (sym two.2) in
    (two.1, two.3 ∙ replay_seen machine_settled in_order (events_replay two.0 r.entry) (events_replay r.state r.entry) two.1 behind)

-- where there are names, no event takes them away, and the next one rises

names_stay : (n : Fenced) (events : List Event) → events_replay (machine.Fenced n) events ≡ machine.Fenced (fenced_replay n (calls_named events))
names_stay n [] = refl
names_stay n (Plain call ∷ events) = names_stay (fenced_step n (Make 0 call)).0 events
names_stay n (Named call ∷ events) = names_stay (fenced_step n call).0 events
names_stay n (Fence first ∷ events) = names_stay n events

names_go_up : (n : Fenced) (calls : List FencedCall) → n.next_name ≤ (fenced_replay n calls).next_name
names_go_up n [] = omega arith
names_go_up n (call ∷ calls) =
    let k : Fenced = (fenced_step n call).0 in
    let one : n.next_name ≤ k.next_name = names_rise n call in
    let rest : k.next_name ≤ (fenced_replay k calls).next_name = names_go_up k calls in
    omega arith

-- the next name, or 0 where there are none
abbrev next_of : Machine → ℕ
next_of (machine.Plain m) = 0
next_of (machine.Fenced m) = m.next_name

pub groups_give_names_once : (m : Machine) (turns : List Turn) → GivesNamesOnce m turns
groups_give_names_once m turns xs ys zs r late first count next more told a b =
    let two = since_told m turns xs ys zs r late told in
    let k : Fenced = (fenced_step a.names (Reserve a.term count)).0 in
    let behind : events_replay r.state r.entry ≡ machine.Fenced k =
    ap (λ (n : Machine). events_replay n r.entry) a.state ∙ ap (events_replay (machine.Fenced a.names)) a.entry in
    let since : AreMachinesAlike (machine.Fenced b.names) (machine.Fenced (fenced_replay k (calls_named two.0))) =
    ap machine_settled (sym b.state) ∙ two.1 ∙ ap machine_settled (ap (λ (n : Machine). events_replay n two.0) behind ∙ names_stay k two.0) in
    let here : b.names.next_name ≡ (fenced_replay k (calls_named two.0)).next_name = ap next_of since in
    let up : k.next_name ≤ (fenced_replay k (calls_named two.0)).next_name = names_go_up k (calls_named two.0) in
    let given = gives a.names a.term count first a.told in
    let start : a.names.next_name ≡ first = given.0 in
    let end : k.next_name ≡ a.names.next_name + count = given.1 in
    let later : b.names.next_name ≡ next = (gives b.names b.term more next b.told).0 in
    omega arith

terms_go_up : (n : Fenced) (calls : List FencedCall) → n.term ≤ (fenced_replay n calls).term
terms_go_up n [] = omega arith
terms_go_up n (call ∷ calls) =
    let k : Fenced = (fenced_step n call).0 in
    let one : n.term ≤ k.term = terms_rise n call in
    let rest : k.term ≤ (fenced_replay k calls).term = terms_go_up k calls in
    omega arith

-- the term, or 0 where there are no names
abbrev term_of : Machine → ℕ
term_of (machine.Plain m) = 0
term_of (machine.Fenced m) = m.term

abbrev pub first_or : FencedCall → List FencedCall → FencedCall
first_or call [] = call
first_or call (x ∷ xs) = x

-- where there are names, an event is the step of its call
pub steps_as : (n : Fenced) (event : Event) (call : FencedCall) → named_as event ≡ call ∷ [] → event_step (machine.Fenced n) event ≡ machine.Fenced (fenced_step n call).0
steps_as n (Plain its) call is = ap (λ (c : FencedCall). machine.Fenced (fenced_step n c).0) (ap (first_or call) is)
steps_as n (Named its) call is = ap (λ (c : FencedCall). machine.Fenced (fenced_step n c).0) (ap (first_or call) is)
steps_as n (Fence first) call is = absurd cc

-- an answer with a term has the term after its call, and one that ends a term a higher one than before
term_told : (n : Fenced) (call : FencedCall) (term : ℕ) (its : Answer) → (fenced_step n call).1 ≡ answer.Made term its
    → ((fenced_step n call).0.term ≡ term) × (has_ended call (answer.Made term its) ≡ true → n.term < (fenced_step n call).0.term)
term_told n call term its told =
    let all = tells n call (ap has_term told) in
    (all.0 ∙ ap term_in told, λ ended. all.1 (ap (has_ended call) told ∙ ended))

pub groups_begin_terms_once : (m : Machine) (turns : List Turn) → BeginsTermsOnce m turns
groups_begin_terms_once m turns xs ys zs r late call after term next its more told a b =
    let two = since_told m turns xs ys zs r late told in
    let k : Fenced = (fenced_step a.names call).0 in
    let behind : events_replay r.state r.entry ≡ machine.Fenced k =
    ap (λ (n : Machine). events_replay n r.entry) a.state ∙ ap (events_replay (machine.Fenced a.names)) a.entry ∙ steps_as a.names a.event call a.asked in
    let since : AreMachinesAlike (machine.Fenced b.names) (machine.Fenced (fenced_replay k (calls_named two.0))) =
    ap machine_settled (sym b.state) ∙ two.1 ∙ ap machine_settled (ap (λ (n : Machine). events_replay n two.0) behind ∙ names_stay k two.0) in
    let here : b.names.term ≡ (fenced_replay k (calls_named two.0)).term = ap term_of since in
    let up : k.term ≤ (fenced_replay k (calls_named two.0)).term = terms_go_up k (calls_named two.0) in
    let first = term_told a.names call term its a.told in
    let start : k.term ≡ term = first.0 in
    let last = term_told b.names after next more b.told in
    let end : (fenced_step b.names after).0.term ≡ next = last.0 in
    let rise : b.names.term ≤ (fenced_step b.names after).0.term = terms_rise b.names after in (
      omega arith,
      λ ended.
          let above : b.names.term < (fenced_step b.names after).0.term = last.1 ended in
          omega arith,
    )
