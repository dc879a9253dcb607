-- A task, order by order.
use Rattle.ckpt_workers.proofs.Names.{All, All-push, Answer, Call, Exchange, Hand, IsAsked, IsShift, IsTasked, None, Option, Some, [], answers, calls_in, capped, cond, is_late, is_other, is_taken_in}
use Rattle.ckpt_workers.proofs.Names.{map-append, refl, subst, sym, ◌++◌, ◌+◌, ◌∙◌, ◌∷◌, ◌≡◌}
use Rattle.ckpt_workers.proofs.ShiftLemmas.{IsShift-push}
use Rattle.ckpt_workers.proofs.TallyLemmas.{capped-push}
use Rattle.ckpt_workers.specs.Orders.{IsOrder}
use Rattle.ckpt_workers.specs.declared.task.Tally.{Tally}

pub IsTasked-push : (old hand new : Hand) (was is : Tally) (call : Call) (answer : Option Answer)
    → IsTasked old hand was → IsOrder call → IsAsked hand call new answer
    → is.accepted ≡ cond (answers is_taken_in answer) (capped (was.accepted + 1)) was.accepted
    → is.late ≡ cond (answers is_late answer) (capped (was.late + 1)) was.late
    → is.refused ≡ cond (answers is_other answer) (capped (was.refused + 1)) was.refused
    → IsTasked old new is
IsTasked-push old hand new was is call None h order asked accepted late refused = record {
  told = h.told;
  shift = subst (λ (n : Hand). IsShift old h.told n) (sym asked) h.shift;
  orders = h.orders;
  accepted = accepted ∙ h.accepted;
  late = late ∙ h.late;
  refused = refused ∙ h.refused;
}
IsTasked-push old hand new was is call (Some answer) h order asked accepted late refused =
    let t : Exchange = record { call = call; answer = answer } in
    record {
      told = h.told ++ t ∷ [];
      shift = IsShift-push old h.told hand call answer new h.shift asked;
      orders = subst (All IsOrder) (sym (map-append (λ (x : Exchange). x.call) h.told (t ∷ []))) (All-push IsOrder (calls_in h.told) call h.orders order);
      accepted = capped-push (λ (x : Exchange). is_taken_in x.answer) h.told t (is_taken_in answer) was.accepted is.accepted refl h.accepted accepted;
      late = capped-push (λ (x : Exchange). is_late x.answer) h.told t (is_late answer) was.late is.late refl h.late late;
      refused = capped-push (λ (x : Exchange). is_other x.answer) h.told t (is_other answer) was.refused is.refused refl h.refused refused;
    }
