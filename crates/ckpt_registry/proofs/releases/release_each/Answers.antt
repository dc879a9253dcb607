-- Answers the goals of `release_each`.
use Rattle.ckpt_registry.proofs.{AreCounted-unpinned, AreReleased-then, ap, length, pins_in, pins_in-filter, sym, uses_in, without-none, without_more, ℕ, ◌<◌, ◌∙◌}
use Rattle.ckpt_registry.proofs.releases.release_each.Goals as goal

pub loop-owner-init : goal.loop-owner-init
loop-owner-init c =
    let was = c.args.uses.now in
    let e = c.unpin.ensures in
    record {
      counted = AreCounted-unpinned was.acknowledged was.pinned.items c.unpin.new.pinned.items c.args.owners.now was.counts c.unpin.new.counts c.requires.counted e.kept e.lowered.lowered
          e.lowered.range;
      uses = sym (without-none (uses_in was.acknowledged.items));
      pins = ap (pins_in was.acknowledged) e.kept ∙ pins_in-filter was.acknowledged c.args.owners.now was.pinned.items;
      released = e.lowered.released;
      spare = c.requires.spare;
      no_files = e.no_files;
    }

pub loop-owner-preserved : goal.loop-owner-preserved
loop-owner-preserved c =
    let before = c.loop-owner.invariant in
    let e = c.drop_uses.ensures in
    let owners = c.args.owners.now in
    let i = c.loop-owner.owner-index in
    let owner : ℕ = c.owner-item.result in
    let within : i < length owners = c.loop-owner-test.true in
    record {
      counted = e.counted;
      uses = e.uses ∙ without_more owners i owner _ _ within c.owner-item.is before.uses;
      pins = e.pins ∙ before.pins;
      released = AreReleased-then _ _ _ _ _ _ before.released e.released;
      spare = e.spare;
      no_files = before.no_files;
    }
