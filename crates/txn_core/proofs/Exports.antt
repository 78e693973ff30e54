-- What layers above this one cite by name. Histories and effects are the newest first throughout.

-- a legal history: its effects are a run; what its words say of the state; its beginnings are legal, and each entry may
-- come after those before it
pub use Rattle.txn_core.proofs.LegalRuns.{Facts, legal_facts, legal_run}
pub use Rattle.txn_core.proofs.Prefix.{legal_before, follows_at}
-- legal by its rules one by one
pub use Rattle.txn_core.proofs.Breaking.{keeps_are_legal}
-- what holds of the state after every run
pub use Rattle.txn_core.proofs.Invariant.{GoodSpot, Good}
pub use Rattle.txn_core.proofs.Kept.{good}
-- what was had is had later, the actions and the stamp of a begun number stay, and so does what was allowed
pub use Rattle.txn_core.proofs.Prefix.{had_more, had_stays, any_more, each_stays, same_actions, same_stamp, allowed_more, still_allowed}
-- what the ledger says of a number was said in the history
pub use Rattle.txn_core.proofs.Records.{had_now, was_begun, was_committed, was_cancelled, begun_apart, found_apart}
-- the state, read off the effects
pub use Rattle.txn_core.proofs.Readings.{catalog_read, actions_read, stamp_read, fate_read, applied_read, tab_read, base_read}
-- the laws of the one order, of runs
pub use Rattle.txn_core.proofs.SerialLaws.{waiting_is, holds_the_tables, rows_are_shown, decided_once, stands_once, outcome_at_commit, stamp_order}
pub use Rattle.txn_core.proofs.Points.{point_forward, history_forward}
-- the laws of reads, of refusals and of tokens, of legal histories
pub use Rattle.txn_core.proofs.Causes.{real_holder, late_stamp, get_is_shown, read_at_one_point}
pub use Rattle.txn_core.proofs.Writes.{catalog_is_serial, writes_are_serial, expirations_are_serial}
pub use Rattle.txn_core.proofs.Removals.{removals_leave_none, removals_are_single}
pub use Rattle.txn_core.proofs.Moves.{others_leave_the_order, first_decision_stands, moved_is_real}
pub use Rattle.txn_core.proofs.TokenLife.{drawn_once, later_begins}
pub use Rattle.txn_core.proofs.OwnItems.{points_pass_own, read_holders_are_real, moved_item_is_real}
pub use Rattle.txn_core.proofs.Cancels.{cancels_are_real}
pub use Rattle.txn_core.proofs.Accepted.{held_is_accepted}
pub use Rattle.txn_core.proofs.Begins.{time_ends_life, cancel_ends_life, stale_begins_are_real, repeats_are_done}
-- the feed: its rows are those of the state, its events are legal, and the laws of index rows and pages
pub use Rattle.txn_core.proofs.Agreement.{Agrees, agrees}
pub use Rattle.txn_core.proofs.FeedLegality.{was_sent, legal_events}
pub use Rattle.txn_core.proofs.IndexLaws.{index_rows_project, gone_has_no_rows, drained_is_projection, what_waits_completes}
pub use Rattle.txn_core.proofs.IndexLaws.{repeats_change_nothing, acks_change_once, others_leave_projections, empty_is_empty}
pub use Rattle.txn_core.proofs.IndexLaws.{table_pages_are_shown, index_pages_are_shown}
pub use Rattle.txn_core.proofs.Queues.{others_queue_nothing}
-- cells: what own entries tell and decide, and the step of who has seen them
pub use Rattle.txn_core.proofs.Locality.{own_entries_tell, alike_turned, alike_on, same_entries_alike}
pub use Rattle.txn_core.proofs.CellAnswers.{own_timely, timely_by_own, alike_answer, own_entries_answer, cells_answer, same_entries_answer, seen_cells_are_enough}
-- drivers: what they know at first, after each step and ever after, and what they may send
pub use Rattle.txn_core.proofs.Knowing.{begun, recalled, prepared, reasoned, decided, found, applied, released, finished, begun_stays, told_stays, reasons_stay}
pub use Rattle.txn_core.proofs.Drives.{may_prepare, may_commit, may_cancel, may_apply, may_release, may_finish}
pub use Rattle.txn_core.proofs.Fated.{committed_end, cancelled_end, begun_positive, one_drawer, own_number_is_kept, reasons_decided, reasons_recalled, reasons_of_stay}
pub use Rattle.txn_core.proofs.CourseEnds.{ended, left}
pub use Rattle.txn_core.proofs.CourseEnds.{prepared as prepare_lessens, decided as decision_lessens, done as done_lessens}
-- histories that are kept oldest first
pub use Rattle.txn_core.proofs.OldestFirst.{filter_reversed, of_cell_reversed, of_pass_reversed, newest, beginning_is_tail}
