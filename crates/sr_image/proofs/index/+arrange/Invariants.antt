use Rattle.sr_image.proofs.index.+arrange.Given as goal

abbrev pub decreases-arrange : goal.decreases-arrange
decreases-arrange l = l.size
