-- That each kind of step keeps what the laws on all runs speak of.
pub mod Places
pub mod Calls
pub mod Changes
pub mod Ids
pub mod Endings
pub mod Invoke
pub mod Storing
pub mod Objects
pub mod Signals
pub mod Async
pub mod Loop
pub mod Operations
pub mod Statements
pub mod Leaving
pub mod Step
use Rattle.std.proofs.Common.{List, [], ◌∷◌}
use Rattle.core_tree.proofs.Kept.{calm_same, calm_item, calm_items, plain_nil, plain_item, plain_append, plain_if, plain_map, plain_flat_map, keeps_calm, keeps_made, keeps_test, keeps_either, more}
use Rattle.core_tree.proofs.Owned.{carries_same, carries_more, carries_put, takes_nil, takes_item, takes_append, fills_tested, fills_ownable, gains_last, gains_more}
use Rattle.core_tree.proofs.Moved.{carries_carried, takes_empty_places, fills_unowning, fills_nothing}

-- what puts items in front, none of which ends a thing
pub ruleset plain_rules = (plain_nil, plain_item, plain_append, plain_if, plain_map, plain_flat_map)

-- what most steps are made of
pub ruleset steps = (keeps_calm, keeps_made, keeps_test, keeps_either, more, calm_same, calm_item, calm_items, plain_nil, plain_item, plain_append, plain_if, plain_map, plain_flat_map, carries_same, carries_more, carries_put, carries_carried, takes_nil, takes_item, takes_append, takes_empty_places, fills_tested, fills_ownable, fills_unowning, fills_nothing, gains_last, gains_more)
