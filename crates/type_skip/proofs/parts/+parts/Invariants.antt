use Rattle.std.proofs.Common.{◌+◌, ◌*◌, ◌-◌, ◌^◌}
use Rattle.syntax_tree.specs.Types.{IsType, IsParts}
use Rattle.type_skip.specs.Inner.{IsClosedItemList, IsClosedFields, IsClosedGenerics}
use Rattle.type_skip.specs.Words.{token_of}
use Rattle.type_skip.proofs.Leading.{Exactly}
use Rattle.type_skip.proofs.parts.+parts.Given as goal

abbrev pub decreases-type_end : goal.decreases-type_end
decreases-type_end l = 16 * l.room + 5

abbrev pub decreases-atom : goal.decreases-atom
decreases-atom l = 16 * l.room + 4

abbrev pub decreases-function_step : goal.decreases-function_step
decreases-function_step l = 16 * l.room + 3

abbrev pub decreases-name_end : goal.decreases-name_end
decreases-name_end l = 16 * l.room + 2

abbrev pub decreases-arguments_end : goal.decreases-arguments_end
decreases-arguments_end l = 16 * l.room

abbrev pub decreases-table_end : goal.decreases-table_end
decreases-table_end l = 16 * l.room

abbrev pub decreases-head_end : goal.decreases-head_end
decreases-head_end l = 16 * l.room

abbrev pub decreases-items_end : goal.decreases-items_end
decreases-items_end l = 16 * l.room + 8

abbrev pub decreases-item_end : goal.decreases-item_end
decreases-item_end l = 16 * l.room + 6

abbrev pub decreases-fields_end : goal.decreases-fields_end
decreases-fields_end l = 16 * l.room + 8

abbrev pub decreases-field_end : goal.decreases-field_end
decreases-field_end l = 16 * l.room + 7

abbrev pub decreases-generics_end : goal.decreases-generics_end
decreases-generics_end l = 16 * l.room + 9

abbrev pub decreases-generic_list_end : goal.decreases-generic_list_end
decreases-generic_list_end l = 16 * l.room + 8

abbrev pub decreases-generic_end : goal.decreases-generic_end
decreases-generic_end l = 16 * l.room + 7

abbrev pub decreases-default_end : goal.decreases-default_end
decreases-default_end l = 16 * l.room + 6

abbrev pub decreases-item_list_end : goal.decreases-item_list_end
decreases-item_list_end l = 16 * l.room + 7

abbrev pub invariant-fields_end-loop-at : goal.invariant-fields_end-loop-at
invariant-fields_end-loop-at l = Exactly IsClosedFields IsClosedFields l.tokens l.room l.fn.at l.begin

abbrev pub decreases-fields_end-loop-at : goal.decreases-fields_end-loop-at
decreases-fields_end-loop-at l = 2 ^ 64 - l.begin

abbrev pub invariant-generic_list_end-loop-end : goal.invariant-generic_list_end-loop-end
invariant-generic_list_end-loop-end l = Exactly IsClosedGenerics IsClosedGenerics l.tokens l.room l.fn.at l.begin

abbrev pub decreases-generic_list_end-loop-end : goal.decreases-generic_list_end-loop-end
decreases-generic_list_end-loop-end l = 2 ^ 64 - l.begin

abbrev pub invariant-item_list_end-loop-end : goal.invariant-item_list_end-loop-end
invariant-item_list_end-loop-end l = Exactly (IsClosedItemList (token_of l.close)) (IsClosedItemList (token_of l.close)) l.tokens l.room l.fn.at l.begin

abbrev pub decreases-item_list_end-loop-end : goal.decreases-item_list_end-loop-end
decreases-item_list_end-loop-end l = 2 ^ 64 - l.begin

abbrev pub invariant-type_end-loop-next : goal.invariant-type_end-loop-next
invariant-type_end-loop-next l = Exactly IsType IsParts l.tokens l.room l.fn.at l.at

abbrev pub decreases-type_end-loop-next : goal.decreases-type_end-loop-next
decreases-type_end-loop-next l = 2 ^ 64 - l.at
