-- What always holds of a coordinator, its device and its callers.
use Rattle.ckpt_durable.proofs.Names.{◌≡◌, ℕ, zero, suc, List, [], ◌∷◌, ◌++◌, take, refl, sym, ap, ◌∙◌, subst, append_assoc, append-nil, IsUnused, FencedAnswer, FencedCall, Fenced}
use Rattle.ckpt_durable.proofs.Names.{fenced_step, fenced_replay, AreFencedCalls, IsFenced, deletions_are_safe, fenced_calls-join, fenced_calls-split, fenced_replay-append, replay_fenced}
use Rattle.ckpt_durable.proofs.Names.{AreEvents, Event, Life, Made, Committed, Crashed, IsDurable, IsLife, IsWithin, KeepsAll, UsesNoneAgain, World, along, goes_on, happens, lives}
use Rattle.ckpt_durable.proofs.Names.{on_device, started, world}
use Rattle.ckpt_durable.proofs.Lists.{within_both, within_itself, within_take, within_then}

along_append : (m : Fenced) (xs ys : List FencedCall) → along m (xs ++ ys) ≡ along m xs ++ along (fenced_replay m xs) ys
along_append m [] ys = refl
along_append m (x ∷ xs) ys = ap (λ (r : List (FencedCall × FencedAnswer)). (x, (fenced_step m x).1) ∷ r) (along_append (fenced_step m x).0 xs ys)

-- what is durable, and that the answers that wait are those of loose calls
record Holds (m : Fenced) (w : World) : Type 0 where
  durable : IsDurable m w
  waiting : IsWithin w.life.waiting (along (fenced_replay m w.life.kept) w.life.loose)

step_holds : (m : Fenced) (w : World) (event : Event) → Holds m w → Holds m (happens m w event)
step_holds m w (Made call) h =
    let n : Fenced = fenced_replay m w.life.kept in
    let same : on_device w.life ++ call ∷ [] ≡ w.life.kept ++ (w.life.loose ++ call ∷ []) = append_assoc w.life.kept w.life.loose (call ∷ []) in
    let here : w.life.now ≡ fenced_replay n w.life.loose = h.durable.now ∙ fenced_replay-append m w.life.kept w.life.loose in
    record {
      durable = record {
        now = ap (λ (k : Fenced). (fenced_step k call).0) h.durable.now ∙ sym (fenced_replay-append m (on_device w.life) (call ∷ [])) ∙ ap (fenced_replay m) same;
        told = h.durable.told;
        made = subst (λ (xs : List FencedCall). IsWithin xs (w.made ++ call ∷ [])) same (within_both (on_device w.life) w.made (call ∷ []) (call ∷ []) h.durable.made (within_itself (call ∷ [])));
      };
      waiting = subst (IsWithin (w.life.waiting ++ (call, (fenced_step w.life.now call).1) ∷ [])) (sym (along_append n w.life.loose (call ∷ [])))
          (within_both w.life.waiting (along n w.life.loose) ((call, (fenced_step w.life.now call).1) ∷ []) (along (fenced_replay n w.life.loose) (call ∷ [])) h.waiting
          (subst (λ (k : Fenced). IsWithin ((call, (fenced_step w.life.now call).1) ∷ []) (along k (call ∷ []))) here (within_itself ((call, (fenced_step w.life.now call).1) ∷ []))));
    }
step_holds m w Committed h = record {
  durable = record {
    now = h.durable.now ∙ ap (fenced_replay m) (sym (append-nil (on_device w.life)));
    told = subst (IsWithin (w.told ++ w.life.waiting)) (sym (along_append m w.life.kept w.life.loose))
        (within_both w.told (along m w.life.kept) w.life.waiting (along (fenced_replay m w.life.kept) w.life.loose) h.durable.told h.waiting);
    made = subst (λ (xs : List FencedCall). IsWithin xs w.made) (sym (append-nil (on_device w.life))) h.durable.made;
  };
  waiting = tt;
}
step_holds m w (Crashed n) h = record {
  durable = record {
    now = refl;
    told = h.durable.told;
    made = within_then (w.life.kept ++ take n w.life.loose) (on_device w.life) w.made
        (within_both w.life.kept w.life.kept (take n w.life.loose) w.life.loose (within_itself w.life.kept) (within_take n w.life.loose)) h.durable.made;
  };
  waiting = tt;
}

on_holds : (m : Fenced) (w : World) (events : List Event) → Holds m w → Holds m (goes_on m w events)
on_holds m w [] h = h
on_holds m w (event ∷ events) h = on_holds m (happens m w event) events (step_holds m w event h)

started_holds : (m : Fenced) → Holds m (started m)
started_holds m = record { durable = record { now = refl; told = tt; made = tt }; waiting = tt }

pub durable : (m : Fenced) (events : List Event) → IsDurable m (world m events)
durable m events = (on_holds m (started m) events (started_holds m)).durable

pub keeps_all : (m : Fenced) (w : World) (later : List Event) → KeepsAll m w later
keeps_all m w [] = ([], sym (append-nil w.life.kept))
keeps_all m w (Made call ∷ later) = keeps_all m (happens m w (Made call)) later
keeps_all m w (Committed ∷ later) = let rest = keeps_all m (happens m w Committed) later in (w.life.loose ++ rest.0, rest.1 ∙ append_assoc w.life.kept w.life.loose rest.0)
keeps_all m w (Crashed n ∷ later) = keeps_all m (happens m w (Crashed n)) later

-- the calls are of a valid shape

calls_take : (n : ℕ) (xs : List FencedCall) → AreFencedCalls xs → AreFencedCalls (take n xs)
calls_take zero xs a = tt
calls_take (suc n) [] a = tt
calls_take (suc n) (x ∷ xs) a = (a.0, calls_take n xs a.1)

pub on_calls : (m : Fenced) (w : World) (events : List Event) → AreEvents events → AreFencedCalls w.life.kept → AreFencedCalls w.life.loose → AreFencedCalls (on_device (goes_on m w events).life)
on_calls m w [] e a b = fenced_calls-join w.life.kept w.life.loose a b
on_calls m w (Made call ∷ events) e a b = on_calls m (happens m w (Made call)) events e.1 a (fenced_calls-join w.life.loose (call ∷ []) b (e.0, tt))
on_calls m w (Committed ∷ events) e a b = on_calls m (happens m w Committed) events e (fenced_calls-join w.life.kept w.life.loose a b) tt
on_calls m w (Crashed n ∷ events) e a b = on_calls m (happens m w (Crashed n)) events e a (calls_take n w.life.loose b)

pub uses_none_again : (m : Fenced) (events later : List Event) → IsFenced m → AreEvents events → AreEvents later → UsesNoneAgain m events later
uses_none_again m events later i e l before after f is gone =
    let w : World = world m events in
    let v : World = goes_on m w later in
    let more = keeps_all m w later in
    let rest : List FencedCall = (after ++ more.0) ++ v.life.loose in
    let whole : on_device v.life ≡ before ++ rest =
    ap (λ (k : List FencedCall). k ++ v.life.loose) (more.1 ∙ ap (λ (k : List FencedCall). k ++ more.0) is ∙ append_assoc before after more.0) ∙ append_assoc before (after ++ more.0) v.life.loose in
    let first : AreFencedCalls w.life.kept × AreFencedCalls w.life.loose = fenced_calls-split w.life.kept w.life.loose (on_calls m (started m) events e tt tt) in
    let each : AreFencedCalls before × AreFencedCalls rest = fenced_calls-split before rest (subst AreFencedCalls whole (on_calls m w later l first.0 first.1)) in
    let now : v.life.now ≡ fenced_replay (fenced_replay m before) rest =
    (on_holds m w later (on_holds m (started m) events (started_holds m))).durable.now ∙ ap (fenced_replay m) whole ∙ fenced_replay-append m before rest in
    subst (λ (k : Fenced). IsUnused k.core f) (sym now) (deletions_are_safe (fenced_replay m before) rest (replay_fenced m before each.0 i) each.1 f gone)

-- of the code: a life with one call more

life_made : (m : Fenced) (l : Life) (call : FencedCall) → IsLife m l → IsLife m (lives m l (Made call))
life_made m l call h =
    let n : Fenced = fenced_replay m l.kept in
    let one : List (FencedCall × FencedAnswer) = (call, (fenced_step l.now call).1) ∷ [] in
    let here : l.now ≡ fenced_replay n l.loose = h.now ∙ fenced_replay-append m l.kept l.loose in
    record {
      now = ap (λ (k : Fenced). (fenced_step k call).0) h.now ∙ sym (fenced_replay-append m (on_device l) (call ∷ [])) ∙ ap (fenced_replay m) (append_assoc l.kept l.loose (call ∷ []));
      waiting = subst (IsWithin (l.waiting ++ one)) (sym (along_append n l.loose (call ∷ [])))
          (within_both l.waiting (along n l.loose) one (along (fenced_replay n l.loose) (call ∷ [])) h.waiting
          (subst (λ (k : Fenced). IsWithin one (along k (call ∷ []))) here (within_itself one)));
    }

pub made_life : (m : Fenced) (l k : Life) (call : FencedCall) → IsLife m l → k.kept ≡ l.kept → k.loose ≡ l.loose ++ call ∷ [] → k.now ≡ (fenced_step l.now call).0
    → k.waiting ≡ l.waiting ++ (call, (fenced_step l.now call).1) ∷ [] → IsLife m k
made_life m l k call h a b c d =
    let last : List (FencedCall × FencedAnswer) = l.waiting ++ (call, (fenced_step l.now call).1) ∷ [] in
    subst (λ (x : List FencedCall). IsLife m (record { kept = x; loose = k.loose; now = k.now; waiting = k.waiting })) (sym a)
    (subst (λ (x : List FencedCall). IsLife m (record { kept = l.kept; loose = x; now = k.now; waiting = k.waiting })) (sym b)
    (subst (λ (x : Fenced). IsLife m (record { kept = l.kept; loose = l.loose ++ call ∷ []; now = x; waiting = k.waiting })) (sym c)
    (subst (λ (x : List (FencedCall × FencedAnswer)). IsLife m (record { kept = l.kept; loose = l.loose ++ call ∷ []; now = (fenced_step l.now call).0; waiting = x })) (sym d)
    (life_made m l call h))))
