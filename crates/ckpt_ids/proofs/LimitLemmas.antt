-- The tests of a shape and of a configuration pass where they are within their limits.
use Rattle.std.proofs.Common.{◌≡◌, ℕ, true, List, refl}
use Rattle.std.proofs.lemmas.Bool.{le-leb}
use Rattle.std.proofs.lemmas.List.Sums.{list_all-from_AllPass}
use Rattle.std.specs.Prelude.{length, nat_le, sum}
use Rattle.ckpt_ids.specs.Configuration.{Configuration, IsWithinLimits, is_within_limits}
use Rattle.ckpt_ids.specs.declared.limits.TheConstants.{LEAST_INTERVAL, LONGEST_DURATION, MOST_AT_ONCE, MOST_RETAINED, MOST_SUBTASKS, MOST_TOLERABLE, MOST_VERTICES}
use Rattle.ckpt_ids.specs.Shapes.{IsShape, is_shape}

pub shape_holds : (shape : List ℕ) → IsShape shape → is_shape shape ≡ true
shape_holds shape s =
    rw (
      le-leb 1 (length shape) s.vertices_from,
      le-leb (length shape) MOST_VERTICES s.vertices_to,
      list_all-from_AllPass (nat_le 1) shape (λ k d within. le-leb 1 _ (s.each k d within)),
      le-leb (sum shape) MOST_SUBTASKS s.size_to,
    ) refl

pub limits_hold : (c : Configuration) → IsWithinLimits c → is_within_limits c ≡ true
limits_hold c l =
    rw (
      le-leb LEAST_INTERVAL c.interval l.interval_from,
      le-leb c.interval LONGEST_DURATION l.interval_to,
      le-leb c.pause LONGEST_DURATION l.pause_to,
      le-leb 1 c.at_once l.at_once_from,
      le-leb c.at_once MOST_AT_ONCE l.at_once_to,
      le-leb 1 c.timeout l.timeout_from,
      le-leb c.timeout LONGEST_DURATION l.timeout_to,
      le-leb c.tolerable MOST_TOLERABLE l.tolerable_to,
      le-leb 1 c.retained l.retained_from,
      le-leb c.retained MOST_RETAINED l.retained_to,
    ) refl
