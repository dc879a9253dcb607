-- A state that an image may have is one too with the fetched files in ascending order.
use Rattle.std.proofs.lemmas.Grind.{common_steps}
use Rattle.ckpt_model.proofs.Names.{ℕ, ltb, List, ap, arith, ascending, IsIn, AreDistinct, IsAscending-ascending, ascending_already, times-ascending, AreDistinct-from_times, times_at_most_once}
use Rattle.ckpt_model.proofs.Names.{AreDistinct-append, AreDistinct-apart, AreDistinct-left, AreDistinct-right, IsIn-append_left, IsIn-append_right, IsIn-append_cases, IsIn-from_in_order, State}
use Rattle.ckpt_model.proofs.Names.{AreAlike, CanHold, settled}
use Rattle.ckpt_model.proofs.Records.{IsSoundOutbox, outbox_of}
use Rattle.ckpt_model.proofs.Soundness.{outbox_is_sound}

distinct_ascending : (xs : List ℕ) → AreDistinct xs → AreDistinct (ascending xs)
distinct_ascending xs d = AreDistinct-from_times (ascending xs) (λ f. omega (arith, times-ascending f xs, times_at_most_once f xs d))

pub settled_can_hold : (m : State) → CanHold m → CanHold (settled m)
settled_can_hold m h =
    let o : IsSoundOutbox m.records m.waiting m.taken = outbox_of h.sound in
    let was : (f : ℕ) → IsIn f (ascending m.taken) → IsIn f m.taken = λ f. IsIn-from_in_order ltb f m.taken in
    record {
      can_open = h.can_open;
      clock = h.clock;
      sound = outbox_is_sound m m.waiting (ascending m.taken) h.sound (record {
        unused = λ f k. let cases = IsIn-append_cases f m.waiting (ascending m.taken) k in
            grind (arith, common_steps, o.unused f, IsIn-append_left f m.waiting m.taken, IsIn-append_right f m.waiting m.taken, was f, cases);
        apart = AreDistinct-append m.waiting (ascending m.taken) (AreDistinct-left m.waiting m.taken o.apart) (distinct_ascending m.taken (AreDistinct-right m.waiting m.taken o.apart))
            (λ f i j. AreDistinct-apart m.waiting m.taken o.apart f i (was f j));
      });
    }

pub settled_alike : (m : State) → AreAlike m (settled m)
settled_alike m = ap (λ (xs : List ℕ). record m { taken = xs }) (ascending_already (ascending m.taken) (IsAscending-ascending m.taken))
