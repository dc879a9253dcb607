-- A timer, tick by tick.
use Rattle.ckpt_workers.proofs.Names.{Answer, Beat, Exchange, Hand, IsAsked, IsShift, IsTimed, List, None, Option, Some, Tick, [], ap, append-nil, append_assoc, capped, cond, is_refused, is_some, map}
use Rattle.ckpt_workers.proofs.Names.{map-append, not, refl, subst, sym, tick_told, ticks_told, ℕ, ◌++◌, ◌+◌, ◌∙◌, ◌∷◌, ◌≡◌}
use Rattle.ckpt_workers.proofs.ShiftLemmas.{IsShift-push}
use Rattle.ckpt_workers.proofs.TallyLemmas.{capped-push}
use Rattle.ckpt_workers.specs.declared.timer.TimerTally.{TimerTally}
use Rattle.std.proofs.lemmas.Grind.{flat_map-append}

shift_more : (old : Hand) (told : List Exchange) (mid new : Hand) (now : ℕ) (answer : Option Answer) → IsShift old told mid → IsAsked mid (Tick now) new answer
    → IsShift old (told ++ tick_told now answer) new
shift_more old told mid new now None shift asked = subst (λ (l : List Exchange). IsShift old l new) (sym (append-nil told)) (subst (IsShift old told) (sym asked) shift)
shift_more old told mid new now (Some answer) shift asked = IsShift-push old told mid (Tick now) answer new shift asked

pub IsTimed-push : (before mid after : List ℕ) (old hand new : Hand) (was is : TimerTally) (now : ℕ) (answer : Option Answer)
    → IsTimed before mid old hand was → after ≡ mid ++ now ∷ [] → IsAsked hand (Tick now) new answer
    → is.ticks ≡ cond (is_some answer) (capped (was.ticks + 1)) was.ticks
    → is.refused ≡ cond (is_refused answer) (capped (was.refused + 1)) was.refused
    → is.unanswered ≡ cond (not (is_some answer)) (capped (was.unanswered + 1)) was.unanswered
    → IsTimed before after old new is
IsTimed-push before mid after old hand new was is now answer h gave asked ticks refused unanswered =
    let b : Beat = record { moment = now; answer = answer } in
    let told : ticks_told (h.beats ++ b ∷ []) ≡ ticks_told h.beats ++ tick_told now answer =
    flat_map-append (λ (x : Beat). tick_told x.moment x.answer) h.beats (b ∷ []) ∙ ap (λ l. ticks_told h.beats ++ l) (append-nil (tick_told now answer)) in
    record {
      beats = h.beats ++ b ∷ [];
      given =
          gave
          ∙ ap (λ l. l ++ now ∷ []) h.given
          ∙ append_assoc before (map (λ (x : Beat). x.moment) h.beats) (now ∷ [])
          ∙ ap (λ l. before ++ l) (sym (map-append (λ (x : Beat). x.moment) h.beats (b ∷ [])));
      shift = subst (λ (l : List Exchange). IsShift old l new) (sym told) (shift_more old (ticks_told h.beats) hand new now answer h.shift asked);
      ticks = capped-push (λ (x : Beat). is_some x.answer) h.beats b (is_some answer) was.ticks is.ticks refl h.ticks ticks;
      refused = capped-push (λ (x : Beat). is_refused x.answer) h.beats b (is_refused answer) was.refused is.refused refl h.refused refused;
      unanswered = capped-push (λ (x : Beat). not (is_some x.answer)) h.beats b (not (is_some answer)) was.unanswered is.unanswered refl h.unanswered unanswered;
    }
