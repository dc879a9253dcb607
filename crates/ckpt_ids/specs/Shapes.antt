-- The shape of a job: the parallelism of each vertex, and the subtasks that this makes.
-- Source: the Flink documentation, "Parallel Execution"; the limits are this project's own.
use Rattle.std.specs.Prelude.{ℕ, ◌+◌, ◌≤◌, Bool, ◌&&◌, nat_le, ◌==◌, List, [], ◌∷◌, ◌++◌, map, length, sum, All}
use Rattle.std.specs.List.{range_with_len, list_any, list_all}
use Rattle.ckpt_ids.specs.declared.limits.TheConstants.{MOST_SUBTASKS, MOST_VERTICES}
use Rattle.ckpt_ids.specs.declared.subtask.SubtaskId.{SubtaskId}

-- 1 to 256 vertices, each with a parallelism of at least 1, and at most 4096 subtasks
pub record IsShape (shape : List ℕ) : Type 0 where
  pub vertices_from : 1 ≤ length shape
  pub vertices_to : length shape ≤ MOST_VERTICES
  pub each : All (λ parallelism. 1 ≤ parallelism) shape
  pub size_to : sum shape ≤ MOST_SUBTASKS

-- the same, as a test
abbrev pub is_shape : List ℕ → Bool
is_shape shape = nat_le 1 (length shape) && nat_le (length shape) MOST_VERTICES && list_all (nat_le 1) shape && nat_le (sum shape) MOST_SUBTASKS

abbrev pub subtasks_from : ℕ → List ℕ → List SubtaskId
subtasks_from vertex [] = []
subtasks_from vertex (parallelism ∷ shape) = map (λ i. record { vertex = vertex; index = i }) (range_with_len 0 parallelism) ++ subtasks_from (vertex + 1) shape

-- the subtasks of a job, by vertex and then index
abbrev pub subtasks : List ℕ → List SubtaskId
subtasks shape = subtasks_from 0 shape

abbrev pub same_subtask : SubtaskId → SubtaskId → Bool
same_subtask s t = (s.vertex == t.vertex) && (s.index == t.index)

abbrev pub is_subtask : List ℕ → SubtaskId → Bool
is_subtask shape s = list_any (same_subtask s) (subtasks shape)
