-- Calls made one after the other.
use Rattle.ckpt_workers.proofs.Names.{Answer, Call, CallsOn, Exchange, Hand, IsShift, List, MadeAll, [], ap, append-nil, append_assoc, calls_in, map-append, refl, sym}
use Rattle.ckpt_workers.proofs.Names.{◌++◌, ◌∙◌, ◌∷◌, ◌≡◌}
use Rattle.ckpt_locked.specs.Locks.{Made}

pub MadeAll-push : (old : Hand) (told : List Exchange) (mid : Hand) (t : Exchange) (new : Hand) → MadeAll old told mid → Made mid t.call new t.answer → MadeAll old (told ++ t ∷ []) new
MadeAll-push old [] mid t new all one = (new, subst_hand all one, refl)
  where
    subst_hand : mid ≡ old → Made mid t.call new t.answer → Made old t.call new t.answer
    subst_hand e m = rw e at m
MadeAll-push old (x ∷ rest) mid t new all one = (all.0, all.1, MadeAll-push all.0 rest mid t new all.2 one)

pub IsShift-none : (hand : Hand) → IsShift hand [] hand
IsShift-none hand = record { same = (refl, refl); own = sym (append-nil hand.own); made = refl }

pub IsShift-push : (old : Hand) (told : List Exchange) (mid : Hand) (call : Call) (answer : Answer) (new : Hand) → IsShift old told mid → Made mid call new answer
    → IsShift old (told ++ record { call = call; answer = answer } ∷ []) new
IsShift-push old told mid call answer new shift made =
    let t : Exchange = record { call = call; answer = answer } in
    record {
      same = (made.same.0 ∙ shift.same.0, made.same.1 ∙ shift.same.1);
      own =
          made.own_is
          ∙ ap (λ l. l ++ call ∷ []) shift.own
          ∙ append_assoc old.own (calls_in told) (call ∷ [])
          ∙ ap (λ l. old.own ++ l) (sym (map-append (λ (x : Exchange). x.call) told (t ∷ [])));
      made = MadeAll-push old told mid t new shift.made made;
    }

MadeAll-append : (old : Hand) (told : List Exchange) (mid : Hand) (more : List Exchange) (new : Hand) → MadeAll old told mid → MadeAll mid more new → MadeAll old (told ++ more) new
MadeAll-append old [] mid more new first second = from_mid first second
  where
    from_mid : mid ≡ old → MadeAll mid more new → MadeAll old more new
    from_mid e m = rw e at m
MadeAll-append old (x ∷ rest) mid more new first second = (first.0, first.1, MadeAll-append first.0 rest mid more new first.2 second)

IsShift-append : (old : Hand) (told : List Exchange) (mid : Hand) (more : List Exchange) (new : Hand) → IsShift old told mid → IsShift mid more new → IsShift old (told ++ more) new
IsShift-append old told mid more new first second = record {
  same = (second.same.0 ∙ first.same.0, second.same.1 ∙ first.same.1);
  own =
      second.own
      ∙ ap (λ l. l ++ calls_in more) first.own
      ∙ append_assoc old.own (calls_in told) (calls_in more)
      ∙ ap (λ l. old.own ++ l) (sym (map-append (λ (x : Exchange). x.call) told more));
  made = MadeAll-append old told mid more new first.made second.made;
}

-- no call was made
pub calls_none : (hand : Hand) → CallsOn hand hand
calls_none hand = record { told = []; shift = IsShift-none hand }

pub calls_same : (old new : Hand) → new ≡ old → CallsOn old new
calls_same old new e = rw e (calls_none old)

pub calls_one : (old : Hand) (call : Call) (new : Hand) (answer : Answer) → Made old call new answer → CallsOn old new
calls_one old call new answer made = record { told = _; shift = IsShift-push old [] old call answer new (IsShift-none old) made }

-- one part of the work after the other
pub calls_then : (old mid new : Hand) → CallsOn old mid → CallsOn mid new → CallsOn old new
calls_then old mid new first second = record { told = _; shift = IsShift-append old first.told mid second.told new first.shift second.shift }
