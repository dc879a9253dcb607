-- The names that the proofs take from the crates below and from `specs`.
pub use Rattle.ckpt_ids.proofs.AscendingLemmas.{IsAscending-ascending, same_from_times, times-ascending, times-cons}
pub use Rattle.ckpt_ids.proofs.CountLemmas.{times-filter}
pub use Rattle.ckpt_ids.proofs.OrderedLemmas.{AreDistinct-apart, AreDistinct-append, AreDistinct-filter, AreDistinct-left, AreDistinct-right, IsIn-from_test, not_in-from_test, test-from_IsIn}
pub use Rattle.ckpt_ids.specs.Ascending.{ascending}
pub use Rattle.ckpt_ids.specs.Counting.{one_if, times}
pub use Rattle.ckpt_ids.specs.Ordered.{IsIn, AreDistinct}
pub use Rattle.ckpt_outbox.specs.Changes.{Changed, changed, unchanged}
pub use Rattle.ckpt_outbox.specs.Places.{IsTicketed, is_apart, ticket}
pub use Rattle.ckpt_outbox.specs.Queues.{Queues, is_in, is_known, without}
pub use Rattle.std.proofs.Common.{Bool, List, Some, [], ap, append_assoc, arith, cond, drop, eqb, false, filter, get_or, length, nat_eq, not, refl, suc, sym, take, true, vec_capacity, vec_len, ℕ}
pub use Rattle.std.proofs.Common.{⊎_elim, ◌%◌, ◌++◌, ◌+◌, ◌-◌, ◌<◌, ◌==◌, ◌^◌, ◌∙◌, ◌∷◌, ◌≡◌, ◌≤◌, Option, is_some}
pub use Rattle.std.proofs.lemmas.Bool.{both_ways, or_cases}
pub use Rattle.std.proofs.lemmas.Grind.{common_steps, get_or_default_zero}
pub use Rattle.std.proofs.lemmas.List.{drop_more, take-append-drop, take_more}
pub use Rattle.std.proofs.lemmas.List.Folds.{list_any_at}
pub use Rattle.std.proofs.lemmas.Map.Steps.{set_value_same}
pub use Rattle.std.specs.List.{AllByRecursion, list_any}
pub use Rattle.std.specs.Option.{option_map_or}
pub use Rattle.std.specs.VecDeque.Iter.{deque_iter_rest}
pub use Rattle.std.specs.HashMap.{get as map_get, keys as map_keys}
