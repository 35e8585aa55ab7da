-- At each step of these runs each live thing has an owner, each ending one stands in the work once, and what is gone is owned by nothing.
use Rattle.std.specs.Prelude.{◌≡◌, refl, true}
use Rattle.core_tree.specs.Step.{opening}
use Rattle.core_tree.specs.Tidy.{stays_tidy}
use Rattle.core_tree.proofs.Build.{quiet_world}
use Rattle.core_tree.proofs.Mixed.{struct_elements, timeout_stays}
use Rattle.core_tree.proofs.Shop.{shop}
use Rattle.core_tree.proofs.Destructor.{core}
use Rattle.core_tree.proofs.Owning.{moved_twice, weak_cycle}
use Rattle.core_tree.proofs.Lambdas.{shared_variable}
use Rattle.core_tree.proofs.Errors.{carried_error}
use Rattle.core_tree.proofs.Emissions.{disconnected}
use Rattle.core_tree.proofs.Objects.{making_throws, struct_assigned, temporaries_of_base, written_property}
use Rattle.core_tree.proofs.Activations.{result_not_taken, waits_for_inner}
use Rattle.core_tree.proofs.Scopes.{end_of_call, captured_parameters}
use Rattle.core_tree.proofs.Ways.{finally_throws, temporaries_of_error}
use Rattle.core_tree.proofs.Passing.{disconnects_itself}
use Rattle.core_tree.proofs.Gone.{handler_of_ending, second_end}

pub core_is_tidy : stays_tidy core 120 (opening core quiet_world) ≡ true
unfolding Rattle.core_tree.specs.declared.tree.CoreExpr.TheViews.out-CoreStmt denote.Hole.Carrier.out Rattle.core_tree.specs.declared.tree.CoreExpr.TheBlock.shown-the_row-CoreStmt-3 denote.Hole.Carrier.shown denote.Hole.Carrier.hidden Rattle.core_tree.specs.declared.tree.CoreExpr.TheViews.out-CoreExpr Rattle.std.specs.Fmt.digits
core_is_tidy = refl

pub weak_cycle_is_tidy : stays_tidy weak_cycle 200 (opening weak_cycle quiet_world) ≡ true
unfolding Rattle.core_tree.specs.declared.tree.CoreExpr.TheViews.out-CoreStmt denote.Hole.Carrier.out Rattle.core_tree.specs.declared.tree.CoreExpr.TheBlock.shown-the_row-CoreStmt-3 denote.Hole.Carrier.shown denote.Hole.Carrier.hidden Rattle.core_tree.specs.declared.tree.CoreExpr.TheViews.out-CoreExpr Rattle.std.specs.Fmt.digits
weak_cycle_is_tidy = refl

pub moved_twice_is_tidy : stays_tidy moved_twice 120 (opening moved_twice quiet_world) ≡ true
unfolding Rattle.core_tree.specs.declared.tree.CoreExpr.TheViews.out-CoreStmt denote.Hole.Carrier.out Rattle.core_tree.specs.declared.tree.CoreExpr.TheBlock.shown-the_row-CoreStmt-3 denote.Hole.Carrier.shown denote.Hole.Carrier.hidden Rattle.core_tree.specs.declared.tree.CoreExpr.TheViews.out-CoreExpr Rattle.std.specs.Fmt.digits
moved_twice_is_tidy = refl

pub shared_variable_is_tidy : stays_tidy shared_variable 250 (opening shared_variable quiet_world) ≡ true
unfolding Rattle.core_tree.specs.declared.tree.CoreExpr.TheViews.out-CoreStmt denote.Hole.Carrier.out Rattle.core_tree.specs.declared.tree.CoreExpr.TheBlock.shown-the_row-CoreStmt-3 denote.Hole.Carrier.shown denote.Hole.Carrier.hidden Rattle.core_tree.specs.declared.tree.CoreExpr.TheViews.out-CoreExpr Rattle.std.specs.Fmt.digits
shared_variable_is_tidy = refl

pub carried_error_is_tidy : stays_tidy carried_error 300 (opening carried_error quiet_world) ≡ true
unfolding Rattle.core_tree.specs.declared.tree.CoreExpr.TheViews.out-CoreStmt denote.Hole.Carrier.out Rattle.core_tree.specs.declared.tree.CoreExpr.TheBlock.shown-the_row-CoreStmt-3 denote.Hole.Carrier.shown denote.Hole.Carrier.hidden Rattle.core_tree.specs.declared.tree.CoreExpr.TheViews.out-CoreExpr Rattle.std.specs.Fmt.digits
carried_error_is_tidy = refl

pub disconnected_is_tidy : stays_tidy disconnected 250 (opening disconnected quiet_world) ≡ true
unfolding Rattle.core_tree.specs.declared.tree.CoreExpr.TheViews.out-CoreStmt denote.Hole.Carrier.out Rattle.core_tree.specs.declared.tree.CoreExpr.TheBlock.shown-the_row-CoreStmt-3 denote.Hole.Carrier.shown denote.Hole.Carrier.hidden Rattle.core_tree.specs.declared.tree.CoreExpr.TheViews.out-CoreExpr Rattle.std.specs.Fmt.digits
disconnected_is_tidy = refl

pub making_throws_is_tidy : stays_tidy making_throws 400 (opening making_throws quiet_world) ≡ true
unfolding Rattle.core_tree.specs.declared.tree.CoreExpr.TheViews.out-CoreStmt denote.Hole.Carrier.out Rattle.core_tree.specs.declared.tree.CoreExpr.TheBlock.shown-the_row-CoreStmt-3 denote.Hole.Carrier.shown denote.Hole.Carrier.hidden Rattle.core_tree.specs.declared.tree.CoreExpr.TheViews.out-CoreExpr Rattle.std.specs.Fmt.digits
making_throws_is_tidy = refl

pub temporaries_of_base_is_tidy : stays_tidy temporaries_of_base 400 (opening temporaries_of_base quiet_world) ≡ true
unfolding Rattle.core_tree.specs.declared.tree.CoreExpr.TheViews.out-CoreStmt denote.Hole.Carrier.out Rattle.core_tree.specs.declared.tree.CoreExpr.TheBlock.shown-the_row-CoreStmt-3 denote.Hole.Carrier.shown denote.Hole.Carrier.hidden Rattle.core_tree.specs.declared.tree.CoreExpr.TheViews.out-CoreExpr Rattle.std.specs.Fmt.digits
temporaries_of_base_is_tidy = refl

pub struct_assigned_is_tidy : stays_tidy struct_assigned 300 (opening struct_assigned quiet_world) ≡ true
unfolding Rattle.core_tree.specs.declared.tree.CoreExpr.TheViews.out-CoreStmt denote.Hole.Carrier.out Rattle.core_tree.specs.declared.tree.CoreExpr.TheBlock.shown-the_row-CoreStmt-3 denote.Hole.Carrier.shown denote.Hole.Carrier.hidden Rattle.core_tree.specs.declared.tree.CoreExpr.TheViews.out-CoreExpr Rattle.std.specs.Fmt.digits
struct_assigned_is_tidy = refl

pub waits_for_inner_is_tidy : stays_tidy waits_for_inner 400 (opening waits_for_inner quiet_world) ≡ true
unfolding Rattle.core_tree.specs.declared.tree.CoreExpr.TheViews.out-CoreStmt denote.Hole.Carrier.out Rattle.core_tree.specs.declared.tree.CoreExpr.TheBlock.shown-the_row-CoreStmt-3 denote.Hole.Carrier.shown denote.Hole.Carrier.hidden Rattle.core_tree.specs.declared.tree.CoreExpr.TheViews.out-CoreExpr Rattle.std.specs.Fmt.digits
waits_for_inner_is_tidy = refl

pub result_not_taken_is_tidy : stays_tidy result_not_taken 400 (opening result_not_taken quiet_world) ≡ true
unfolding Rattle.core_tree.specs.declared.tree.CoreExpr.TheViews.out-CoreStmt denote.Hole.Carrier.out Rattle.core_tree.specs.declared.tree.CoreExpr.TheBlock.shown-the_row-CoreStmt-3 denote.Hole.Carrier.shown denote.Hole.Carrier.hidden Rattle.core_tree.specs.declared.tree.CoreExpr.TheViews.out-CoreExpr Rattle.std.specs.Fmt.digits
result_not_taken_is_tidy = refl

pub end_of_call_is_tidy : stays_tidy end_of_call 300 (opening end_of_call quiet_world) ≡ true
unfolding Rattle.core_tree.specs.declared.tree.CoreExpr.TheViews.out-CoreStmt denote.Hole.Carrier.out Rattle.core_tree.specs.declared.tree.CoreExpr.TheBlock.shown-the_row-CoreStmt-3 denote.Hole.Carrier.shown denote.Hole.Carrier.hidden Rattle.core_tree.specs.declared.tree.CoreExpr.TheViews.out-CoreExpr Rattle.std.specs.Fmt.digits
end_of_call_is_tidy = refl

pub finally_throws_is_tidy : stays_tidy finally_throws 200 (opening finally_throws quiet_world) ≡ true
unfolding Rattle.core_tree.specs.declared.tree.CoreExpr.TheViews.out-CoreStmt denote.Hole.Carrier.out Rattle.core_tree.specs.declared.tree.CoreExpr.TheBlock.shown-the_row-CoreStmt-3 denote.Hole.Carrier.shown denote.Hole.Carrier.hidden Rattle.core_tree.specs.declared.tree.CoreExpr.TheViews.out-CoreExpr Rattle.std.specs.Fmt.digits
finally_throws_is_tidy = refl

pub disconnects_itself_is_tidy : stays_tidy disconnects_itself 300 (opening disconnects_itself quiet_world) ≡ true
unfolding Rattle.core_tree.specs.declared.tree.CoreExpr.TheViews.out-CoreStmt denote.Hole.Carrier.out Rattle.core_tree.specs.declared.tree.CoreExpr.TheBlock.shown-the_row-CoreStmt-3 denote.Hole.Carrier.shown denote.Hole.Carrier.hidden Rattle.core_tree.specs.declared.tree.CoreExpr.TheViews.out-CoreExpr Rattle.std.specs.Fmt.digits
disconnects_itself_is_tidy = refl

pub second_end_is_tidy : stays_tidy second_end 400 (opening second_end quiet_world) ≡ true
unfolding Rattle.core_tree.specs.declared.tree.CoreExpr.TheViews.out-CoreStmt denote.Hole.Carrier.out Rattle.core_tree.specs.declared.tree.CoreExpr.TheBlock.shown-the_row-CoreStmt-3 denote.Hole.Carrier.shown denote.Hole.Carrier.hidden Rattle.core_tree.specs.declared.tree.CoreExpr.TheViews.out-CoreExpr Rattle.std.specs.Fmt.digits
second_end_is_tidy = refl

pub handler_of_ending_is_tidy : stays_tidy handler_of_ending 200 (opening handler_of_ending quiet_world) ≡ true
unfolding Rattle.core_tree.specs.declared.tree.CoreExpr.TheViews.out-CoreStmt denote.Hole.Carrier.out Rattle.core_tree.specs.declared.tree.CoreExpr.TheBlock.shown-the_row-CoreStmt-3 denote.Hole.Carrier.shown denote.Hole.Carrier.hidden Rattle.core_tree.specs.declared.tree.CoreExpr.TheViews.out-CoreExpr Rattle.std.specs.Fmt.digits
handler_of_ending_is_tidy = refl

pub shop_is_tidy : stays_tidy shop 700 (opening shop quiet_world) ≡ true
unfolding Rattle.core_tree.specs.declared.tree.CoreExpr.TheViews.out-CoreStmt denote.Hole.Carrier.out Rattle.core_tree.specs.declared.tree.CoreExpr.TheBlock.shown-the_row-CoreStmt-3 denote.Hole.Carrier.shown denote.Hole.Carrier.hidden Rattle.core_tree.specs.declared.tree.CoreExpr.TheViews.out-CoreExpr Rattle.std.specs.Fmt.digits
shop_is_tidy = refl

pub written_property_is_tidy : stays_tidy written_property 500 (opening written_property quiet_world) ≡ true
unfolding Rattle.core_tree.specs.declared.tree.CoreExpr.TheViews.out-CoreStmt denote.Hole.Carrier.out Rattle.core_tree.specs.declared.tree.CoreExpr.TheBlock.shown-the_row-CoreStmt-3 denote.Hole.Carrier.shown denote.Hole.Carrier.hidden Rattle.core_tree.specs.declared.tree.CoreExpr.TheViews.out-CoreExpr Rattle.std.specs.Fmt.digits
written_property_is_tidy = refl

pub struct_elements_is_tidy : stays_tidy struct_elements 400 (opening struct_elements quiet_world) ≡ true
unfolding Rattle.core_tree.specs.declared.tree.CoreExpr.TheViews.out-CoreStmt denote.Hole.Carrier.out Rattle.core_tree.specs.declared.tree.CoreExpr.TheBlock.shown-the_row-CoreStmt-3 denote.Hole.Carrier.shown denote.Hole.Carrier.hidden Rattle.core_tree.specs.declared.tree.CoreExpr.TheViews.out-CoreExpr Rattle.std.specs.Fmt.digits
struct_elements_is_tidy = refl

pub timeout_stays_is_tidy : stays_tidy timeout_stays 400 (opening timeout_stays quiet_world) ≡ true
unfolding Rattle.core_tree.specs.declared.tree.CoreExpr.TheViews.out-CoreStmt denote.Hole.Carrier.out Rattle.core_tree.specs.declared.tree.CoreExpr.TheBlock.shown-the_row-CoreStmt-3 denote.Hole.Carrier.shown denote.Hole.Carrier.hidden Rattle.core_tree.specs.declared.tree.CoreExpr.TheViews.out-CoreExpr Rattle.std.specs.Fmt.digits
timeout_stays_is_tidy = refl

pub captured_parameters_is_tidy : stays_tidy captured_parameters 300 (opening captured_parameters quiet_world) ≡ true
unfolding Rattle.core_tree.specs.declared.tree.CoreExpr.TheViews.out-CoreStmt denote.Hole.Carrier.out Rattle.core_tree.specs.declared.tree.CoreExpr.TheBlock.shown-the_row-CoreStmt-3 denote.Hole.Carrier.shown denote.Hole.Carrier.hidden Rattle.core_tree.specs.declared.tree.CoreExpr.TheViews.out-CoreExpr Rattle.std.specs.Fmt.digits
captured_parameters_is_tidy = refl

pub temporaries_of_error_is_tidy : stays_tidy temporaries_of_error 300 (opening temporaries_of_error quiet_world) ≡ true
unfolding Rattle.core_tree.specs.declared.tree.CoreExpr.TheViews.out-CoreStmt denote.Hole.Carrier.out Rattle.core_tree.specs.declared.tree.CoreExpr.TheBlock.shown-the_row-CoreStmt-3 denote.Hole.Carrier.shown denote.Hole.Carrier.hidden Rattle.core_tree.specs.declared.tree.CoreExpr.TheViews.out-CoreExpr Rattle.std.specs.Fmt.digits
temporaries_of_error_is_tidy = refl
