-- Each stage asks no more than is ready.
use Rattle.heading.proofs.Heads.{head_ready}
use Rattle.serving.proofs.go_on.Goals as goal

pub first-requires : goal.first-requires
first-requires c = (c.in-First.is, head_ready c.requires)

pub second-requires : goal.second-requires
second-requires c = (c.in-Second.is, head_ready c.requires)
