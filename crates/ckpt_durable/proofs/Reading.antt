-- What is read while nothing waits holds through all crashes.
use Rattle.ckpt_durable.proofs.Names.{◌≡◌, List, [], ◌++◌, sym, ap, ◌∙◌, append-nil, FencedCall, Fenced, fenced_replay, may_be_deleted, IsFenced, AreEvents, Event, ReadsAreSafe, World}
use Rattle.ckpt_durable.proofs.Names.{world}
use Rattle.ckpt_durable.proofs.Worlds.{durable, uses_none_again}

pub reads_are_safe : (m : Fenced) (events later : List Event) → IsFenced m → AreEvents events → AreEvents later → ReadsAreSafe m events later
reads_are_safe m events later i e l f none gone =
    let w : World = world m events in
    let now : w.life.now ≡ fenced_replay m w.life.kept =
    (durable m events).now ∙ ap (λ (loose : List FencedCall). fenced_replay m (w.life.kept ++ loose)) none ∙ ap (fenced_replay m) (append-nil w.life.kept) in
    uses_none_again m events later i e l w.life.kept [] f (sym (append-nil w.life.kept)) (ap (λ (n : Fenced). may_be_deleted n f) (sym now) ∙ gone)
