-- Answers the goals of `files_pinned`.
use Rattle.ckpt_registry.proofs.{IsKept-at}
use Rattle.ckpt_registry.proofs.pins.files_pinned.Goals as goal

pub files-requires-clause-kept : goal.files-requires-clause-kept
files-requires-clause-kept c = IsKept-at c.args.acknowledged.now c.args.pinned.now c.loop-one.one-index c.one-item.result c.requires.kept c.loop-one-test.true c.one-item.is
