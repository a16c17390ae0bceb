use Rattle.copied_lookups.proofs.Last.{end_size}
use Rattle.copied_lookups.proofs.last_lookup.Goals as goal

pub start-start-requires : goal.start-start-requires
start-start-requires c = end_size c.args.c c.last_joined_end.result c.in_ok-end.was c.last_joined_end.ensures c.requires
