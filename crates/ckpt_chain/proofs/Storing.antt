-- Of each live record each file is there.
use Rattle.ckpt_chain.proofs.Names.{◌≡◌, ℕ, Bool, true, false, eqb, List, [], ◌∷◌, ◌++◌, if◌then◌else◌, take, refl, sym, ap, ◌∙◌, subst, append_assoc, append-nil, take-append-drop, ◌⊎◌, inl}
use Rattle.ckpt_chain.proofs.Names.{inr, ⊎_elim, drop, Option, Some, None, cond_both, eqb-true, Call, IsIn, Record, is_present, uses, IsIn-append_cases, IsIn-append_left, IsIn-append_right}
use Rattle.ckpt_chain.proofs.Names.{IsUnused, State, step, replay, AreCalls, along, registered_by, IsSound, absent-from_unused, present-from_IsHeld, step_keeps, Machine, core_in}
use Rattle.ckpt_chain.proofs.Names.{present_after, AreEvents, Event, IsWell, calls_in, events_replay, reaches, AreTurns, Committed, Crashed, Imaged, IsDurable, Looked, Made, Receipt, Turn}
use Rattle.ckpt_chain.proofs.Names.{World, goes_on, happens, started, synced, world, AreMachinesAlike, same_records, group_reads_are_safe, groups_durable, Act, AreAllowed, AreStored}
use Rattle.ckpt_chain.proofs.Names.{FilesStay, HasWritten, IsAllowed, IsFreeFor, IsThere, IsWritten, MayBeRemoved, Removed, Site, Storage, Turned, Wrote, acted, begun, goes_through, put}
use Rattle.ckpt_chain.proofs.Names.{registered_in, site}
use Rattle.ckpt_chain.proofs.{Calls.along_two, Calls.are_made, Calls.within_are, Cutting.core_sound, Like.same_registered_in}

-- A STORAGE

written_put : (s : Storage) (file content f : ℕ) → IsWritten (s f) → IsWritten (put file (Some content) s f)
written_put s file content f w = cond_both (eqb file f) (Some content) (s f) IsWritten (λ _. (content, refl)) (λ _. w)

both_put : (b : Bool) (o p q : Option ℕ) (Gone : Type 0) → (p ≡ q) ⊎ Gone → ((if b then o else p) ≡ (if b then o else q)) ⊎ Gone
both_put true o p q Gone k = inl refl
both_put false o p q Gone k = k

one_gone : (b : Bool) (p q : Option ℕ) (Gone : Type 0) → (b ≡ true → Gone) → (p ≡ q) ⊎ Gone → ((if b then None else p) ≡ q) ⊎ Gone
one_gone true p q Gone may k = inr (may refl)
one_gone false p q Gone may k = k

-- what was written under a name stays what was written under it

kept_put : (b : Bool) (content before : ℕ) (o : Option ℕ) → IsFreeFor content o → o ≡ Some before → (if b then Some content else o) ≡ Some before
kept_put true content before None free e = absurd cc
kept_put true content before (Some other) free e = ap Some (sym free) ∙ e
kept_put false content before o free e = e

free_put : (file content f before : ℕ) (s : Storage) → IsFreeFor content (s file) → s f ≡ Some before → put file (Some content) s f ≡ Some before
free_put file content f before s free e =
    cond_both (eqb file f) (Some content) (s f) (λ (o : Option ℕ). o ≡ Some before)
    (λ same. kept_put true content before (s f) (subst (λ (k : ℕ). IsFreeFor content (s k)) (eqb-true file f same) free) e) (λ _. e)

pub ever_stays : (x : Site) (acts : List Act) (f content : ℕ) → AreAllowed x acts → x.ever f ≡ Some content → (goes_through x acts).ever f ≡ Some content
ever_stays x [] f content are e = e
ever_stays x (Turned turn ∷ acts) f content are e = ever_stays (acted x (Turned turn)) acts f content are.1 e
ever_stays x (Wrote file its ∷ acts) f content are e = ever_stays (acted x (Wrote file its)) acts f content are.1 (free_put file its f content x.ever are.0 e)
ever_stays x (Removed file ∷ acts) f content are e = ever_stays (acted x (Removed file)) acts f content are.1 e

-- two lists of acts, one after the other

pub through-append : (x : Site) (before after : List Act) → goes_through x (before ++ after) ≡ goes_through (goes_through x before) after
through-append x [] after = refl
through-append x (act ∷ before) after = through-append (acted x act) before after

pub allowed-split : (x : Site) (before after : List Act) → AreAllowed x (before ++ after) → AreAllowed x before × AreAllowed (goes_through x before) after
allowed-split x [] after are = (tt, are)
allowed-split x (act ∷ before) after are = let rest = allowed-split (acted x act) before after are.1 in ((are.0, rest.0), rest.1)

-- WHAT IS REGISTERED

abbrev registered : Machine → List Event → List ℕ
registered m events = along registered_by (core_in m) (calls_in m events)

registered_first : (m : Machine) (before after : List Event) (f : ℕ) → IsIn f (registered m before) → IsIn f (registered m (before ++ after))
registered_first m before after f h =
    subst (λ (fs : List ℕ). IsIn f fs) (sym (along_two registered_by m before after))
    (IsIn-append_left f (registered m before) (along registered_by (replay (core_in m) (calls_in m before)) (calls_in (events_replay m before) after)) h)

registered_push : (m : Machine) (events : List Event) (event : Event) (now : Machine) (f : ℕ) → AreEvents events → AreMachinesAlike now (events_replay m events)
    → IsIn f (registered m (events ++ event ∷ [])) → IsIn f (registered m events) ⊎ IsIn f (registered_in now event)
registered_push m events event now f are is h =
    let n : Machine = events_replay m events in
    let core : core_in n ≡ replay (core_in m) (calls_in m events) = (reaches m events are).1 in
    let more : List ℕ = along registered_by (replay (core_in m) (calls_in m events)) (calls_in n (event ∷ [])) in
    ⊎_elim
    (λ (k : IsIn f (registered m events)). inl k)
    (λ (k : IsIn f more).
    inr (subst (λ (fs : List ℕ). IsIn f fs) (sym (same_registered_in now n event is)) (subst (λ (s : State). IsIn f (along registered_by s (calls_in n (event ∷ [])))) (sym core) k)))
    (IsIn-append_cases f (registered m events) more (subst (λ (fs : List ℕ). IsIn f fs) (along_two registered_by m events (event ∷ [])) h))

-- a file that is in use was in use at the beginning, or was registered since
present_since : (s : State) (calls : List Call) (f : ℕ) → IsSound s → AreCalls calls → is_present (uses (replay s calls).records) f ≡ true
    → (is_present (uses s.records) f ≡ true) ⊎ IsIn f (along registered_by s calls)
present_since s [] f sound are h = inl h
present_since s (call ∷ calls) f sound are h =
    let first : List ℕ = registered_by s call in
    let rest : List ℕ = along registered_by (step s call).0 calls in
    ⊎_elim
    (λ (k : is_present (uses (step s call).0.records) f ≡ true).
    ⊎_elim (λ (j : is_present (uses s.records) f ≡ true). inl j) (λ (j : IsIn f first). inr (IsIn-append_left f first rest j)) (present_after s call f sound k))
    (λ (k : IsIn f rest). inr (IsIn-append_right f first rest k))
    (present_since (step s call).0 calls f (step_keeps s call are.0 sound) are.1 h)

-- WHAT LASTS

abbrev log_of : World → List Event
log_of w = synced w ++ w.life.loose

pub record Lasts (m : Machine) (x : Site) : Type 0 where
  pub turns : List Turn
  pub are_turns : AreTurns turns
  pub is_world : x.world ≡ world m turns
  began : (f : ℕ) → is_present (uses (core_in m).records) f ≡ true → IsWritten (x.ever f)
  since : (f : ℕ) → IsIn f (registered m (log_of x.world)) → IsWritten (x.ever f)
  stays : (f : ℕ) → (x.there f ≡ x.ever f) ⊎ MayBeRemoved f x.world.told

pub durable_at : (m : Machine) (x : Site) → Lasts m x → IsDurable m x.world
durable_at m x l = subst (IsDurable m) (sym l.is_world) (groups_durable m l.turns)

pub events_at : (m : Machine) (x : Site) → Lasts m x → AreEvents (log_of x.world)
events_at m x l =
    within_are (log_of x.world) x.world.made (durable_at m x l).made (subst (λ (w : World). AreEvents w.made) (sym l.is_world) (are_made (started m) l.turns l.are_turns tt))

-- one turn more

goes_on-push : (w : World) (turns : List Turn) (turn : Turn) → goes_on w (turns ++ turn ∷ []) ≡ happens (goes_on w turns) turn
goes_on-push w [] turn = refl
goes_on-push w (first ∷ turns) turn = goes_on-push (happens w first) turns turn

turns-push : (turns : List Turn) (turn : Turn) → AreTurns turns → AreTurns (turn ∷ []) → AreTurns (turns ++ turn ∷ [])
turns-push [] turn are is = is
turns-push (Made event ∷ turns) turn are is = (are.0, turns-push turns turn are.1 is)
turns-push (Looked ∷ turns) turn are is = turns-push turns turn are is
turns-push (Committed ∷ turns) turn are is = turns-push turns turn are is
turns-push (Imaged n ∷ turns) turn are is = turns-push turns turn are is
turns-push (Crashed n ∷ turns) turn are is = turns-push turns turn are is

in_told : (w : World) (turn : Turn) (r : Receipt) → IsIn r w.told → IsIn r (happens w turn).told
in_told w (Made event) r h = h
in_told w Looked r h = h
in_told w Committed r h = IsIn-append_left r w.told w.life.waiting h
in_told w (Imaged n) r h = h
in_told w (Crashed n) r h = h

still_may_be : (w : World) (turn : Turn) (f : ℕ) → MayBeRemoved f w.told → MayBeRemoved f (happens w turn).told
still_may_be w turn f may = record { receipt = may.receipt; is_told = in_told w turn may.receipt may.is_told; names = may.names; state = may.state; may_be = may.may_be }

since_turn : (m : Machine) (x : Site) (turn : Turn) (f : ℕ) → Lasts m x → HasWritten x turn → IsIn f (registered m (log_of (happens x.world turn))) → IsWritten (x.ever f)
since_turn m x (Made event) f l has h =
    let w : World = x.world in
    ⊎_elim (λ (k : IsIn f (registered m (log_of w))). l.since f k) (λ (k : IsIn f (registered_in w.life.now event)). has f k)
    (registered_push m (log_of w) event w.life.now f (events_at m x l) (durable_at m x l).now
    (subst (λ (events : List Event). IsIn f (registered m events)) (sym (append_assoc (synced w) w.life.loose (event ∷ []))) h))
since_turn m x Looked f l has h = l.since f h
since_turn m x Committed f l has h =
    let w : World = x.world in
    l.since f
    (subst (λ (events : List Event). IsIn f (registered m events)) (append-nil (w.cut ++ (w.life.kept ++ w.life.loose)) ∙ sym (append_assoc w.cut w.life.kept w.life.loose)) h)
since_turn m x (Imaged n) f l has h =
    let w : World = x.world in
    let same : (w.cut ++ take n w.life.kept) ++ drop n w.life.kept ≡ synced w =
    append_assoc w.cut (take n w.life.kept) (drop n w.life.kept) ∙ ap (λ (events : List Event). w.cut ++ events) (take-append-drop n w.life.kept) in
    l.since f (subst (λ (events : List Event). IsIn f (registered m (events ++ w.life.loose))) same h)
since_turn m x (Crashed n) f l has h =
    let w : World = x.world in
    let whole : (synced w ++ take n w.life.loose) ++ drop n w.life.loose ≡ log_of w =
    append_assoc (synced w) (take n w.life.loose) (drop n w.life.loose) ∙ ap (λ (events : List Event). synced w ++ events) (take-append-drop n w.life.loose) in
    l.since f (subst (λ (events : List Event). IsIn f (registered m events)) whole (registered_first m (synced w ++ take n w.life.loose) (drop n w.life.loose) f h))

-- one act more

lasts_on : (m : Machine) (x : Site) (act : Act) → Lasts m x → IsAllowed x act → Lasts m (acted x act)
lasts_on m x (Turned turn) l is = record {
  turns = l.turns ++ turn ∷ [];
  are_turns = turns-push l.turns turn l.are_turns is.0;
  is_world = ap (λ (w : World). happens w turn) l.is_world ∙ sym (goes_on-push (started m) l.turns turn);
  began = l.began;
  since = λ f h. since_turn m x turn f l is.1 h;
  stays = λ f. ⊎_elim
      (λ (k : x.there f ≡ x.ever f). inl k)
      (λ (k : MayBeRemoved f x.world.told). inr (still_may_be x.world turn f k))
      (l.stays f);
}
lasts_on m x (Wrote file content) l is = record {
  turns = l.turns;
  are_turns = l.are_turns;
  is_world = l.is_world;
  began = λ f h. written_put x.ever file content f (l.began f h);
  since = λ f h. written_put x.ever file content f (l.since f h);
  stays = λ f. both_put (eqb file f) (Some content) (x.there f) (x.ever f) (MayBeRemoved f x.world.told) (l.stays f);
}
lasts_on m x (Removed file) l is = record {
  turns = l.turns;
  are_turns = l.are_turns;
  is_world = l.is_world;
  began = l.began;
  since = l.since;
  stays = λ f. one_gone (eqb file f) (x.there f) (x.ever f) (MayBeRemoved f x.world.told)
      (λ same. subst (λ (k : ℕ). MayBeRemoved k x.world.told) (eqb-true file f same) is) (l.stays f);
}

lasts_through : (m : Machine) (x : Site) (acts : List Act) → Lasts m x → AreAllowed x acts → Lasts m (goes_through x acts)
lasts_through m x [] l are = l
lasts_through m x (act ∷ acts) l are = lasts_through m (acted x act) acts (lasts_on m x act l are.0) are.1

pub lasts : (m : Machine) (s : Storage) (acts : List Act) → AreStored m s → AreAllowed (begun m s) acts → Lasts m (site m s acts)
lasts m s acts stored are =
    lasts_through m (begun m s) acts
    (record { turns = []; are_turns = tt; is_world = refl; began = stored; since = λ f h. absurd h; stays = λ f. inl refl })
    are

-- THE LAW

in_parts : {X : Type 0} (x : X) (xs : List X) → IsIn x xs → (before : List X) × (after : List X) × (xs ≡ before ++ x ∷ after)
in_parts x [] h = absurd h
in_parts {X} x (y ∷ xs) (inl e) = ([], xs, ap (λ (z : X). z ∷ xs) (sym e))
in_parts {X} x (y ∷ xs) (inr h) = let rest = in_parts x xs h in (y ∷ rest.0, rest.1, ap (λ (zs : List X). y ∷ zs) rest.2)

in_use : (m : Machine) (x : Site) (f : ℕ) → IsWell m → Lasts m x → is_present (uses (core_in x.world.life.now).records) f ≡ true → IsThere x f
in_use m x f i l used =
    let w : World = x.world in
    let at = reaches m (log_of w) (events_at m x l) in
    let records : (core_in w.life.now).records ≡ (replay (core_in m) (calls_in m (log_of w))).records =
    same_records w.life.now (events_replay m (log_of w)) (durable_at m x l).now ∙ ap (λ (s : State). s.records) at.1 in
    let written : IsWritten (x.ever f) =
    ⊎_elim (l.began f) (l.since f)
    (present_since (core_in m) (calls_in m (log_of w)) f (core_sound m i) at.0 (subst (λ (rs : List Record). is_present (uses rs) f ≡ true) records used)) in
    ⊎_elim
    (λ (same : x.there f ≡ x.ever f). record { content = written.0; is_there = same ∙ written.1; was_written = written.1 })
    (λ (may : MayBeRemoved f w.told).
    let place = in_parts may.receipt w.told may.is_told in
    let told : (world m l.turns).told ≡ place.0 ++ may.receipt ∷ place.1 = ap (λ (v : World). v.told) (sym l.is_world) ∙ place.2 in
    let unused : IsUnused (core_in (world m l.turns).life.now) f =
    group_reads_are_safe m l.turns [] i l.are_turns tt place.0 place.1 may.receipt may.names f told may.state may.may_be in
    let absent : is_present (uses (core_in w.life.now).records) f ≡ false =
    absent-from_unused (core_in w.life.now) f (subst (λ (v : World). IsUnused (core_in v.life.now) f) (sym l.is_world) unused) in
    absurd cc)
    (l.stays f)

pub files_stay_at : (m : Machine) (s : Storage) (acts : List Act) → IsWell m → FilesStay m s acts
files_stay_at m s acts i stored are r a f has of names =
    let x : Site = site m s acts in
    in_use m x f i (lasts m s acts stored are) (present-from_IsHeld f (core_in x.world.life.now).records (r, has, inl (a, of, names)))
