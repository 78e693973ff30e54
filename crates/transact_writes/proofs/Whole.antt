-- What a call does to tables and tokens is the effect of the request.
use Rattle.std.specs.List.{AllByRecursion, list_all, cons_option}
use Rattle.std.specs.Ordering.{nat_cmp, eq_by_cmp, is_eq}
use Rattle.std.specs.Cmp.{tied_itself}
use Rattle.std.specs.Cmp.Lexicographic.{slice_cmp, pointwise}
use Rattle.std.specs.FinMap.{get, insert, remove, get-insert, get-remove}
use Rattle.std.proofs.Common.{◌≡◌, ℕ, Bool, true, false, cond, List, [], ◌∷◌, map, filter_map, Option, None, Some, is_some, IsSome, option_map, Ok, Err, refl, sym, ap, ◌∙◌}
use Rattle.std.proofs.lemmas.Bool.{cond-true, cond-false}
use Rattle.std.proofs.lemmas.Cmp.{nat_list_cmp_total}
use Rattle.client_tokens.specs.declared.kept.Kept.{Kept as KeptToken}
use Rattle.client_tokens.specs.TokenMap.{purged}
use Rattle.client_tokens.proofs.TokenMaps.{same_tokens, tied}
use Rattle.table_request.specs.declared.consumed.Consumed.{Consumed}
use Rattle.table_request.specs.declared.transactions.TransactAction.{TransactAction}
use Rattle.table_request.specs.declared.transactions.TransactWrite.{TransactWrite}
use Rattle.table_model.specs.declared.action.NumberedAction.{NumberedAction}
use Rattle.table_model.specs.declared.reply.Reply.TheVariants as answer
use Rattle.table_model.specs.declared.refusal.Reason.{Reason}
use Rattle.table_model.specs.declared.refusal.Refusal.{Refusal}
use Rattle.table_model.specs.declared.refusal.Refusal.TheVariants.{Cancelled, Mismatch}
use Rattle.table_model.specs.Database.{Database, refused, unless}
use Rattle.table_model.specs.Transactions.{target_of, has_repeat, outcome_of, is_accepted, reason_of, made_all, numbered_all, with_token, kept_of, same_action, transacted, repeated}
use Rattle.numbered_tables.specs.Tables.{Kept, database_in}
use Rattle.numbered_tables.specs.declared.change.TableChange.{TableChange}
use Rattle.numbered_tables.specs.Changes.{has_repeat as is_changed_twice, changed_all, IsChanged}
use Rattle.transact_writes.specs.declared.aimed.Aimed.{Aimed}
use Rattle.transact_writes.specs.Judged.{IsInOrder}
use Rattle.transact_writes.specs.Aimed.{database_of, action_in, IsTarget, AreFit, IsChecked}
use Rattle.transact_writes.specs.Verdicts.{AreJudged}
use Rattle.transact_writes.specs.Writes.{Tokens, Ending, told, repeat_ending, IsKept, request_of, IsAnswered, IsTransactWrite}
use Rattle.transact_writes.proofs.Made.{all_made, changed_once}
use Rattle.transact_writes.proofs.Checks.{targets_are}

-- ---- fit actions

orders : (db : Database) (aimed : List Aimed) → AllByRecursion (IsTarget db) aimed → AllByRecursion (IsInOrder db) (map action_in aimed)
orders db [] all = tt
orders db (aimed ∷ rest) all = (all.0.1, orders db rest all.1)

apart_in : (db : Database) (aimed : List Aimed) → AreFit db aimed → has_repeat (filter_map (target_of db) (map action_in aimed)) ≡ false
apart_in db aimed fit = ap has_repeat (targets_are db aimed fit.targets) ∙ fit.apart

pub numbered_are : (db : Database) (aimed : List Aimed) → AllByRecursion (IsTarget db) aimed
    → numbered_all db (map action_in aimed) ≡ map (λ aimed. aimed.action) aimed
numbered_are db [] all = refl
numbered_are db (aimed ∷ rest) all =
    λ i.
    cons_option (option_map (λ target. (let n : NumberedAction = record { table = target.number; action = aimed.action.action } in n)) (all.0.0 i))
    (numbered_are db rest all.1 i)

pub once_each : (db : Database) (aimed : List Aimed) (changes : List TableChange) → AreFit db aimed → AreJudged db (map action_in aimed) (Ok changes)
    → is_changed_twice changes ≡ false
once_each db aimed changes fit judged =
    ap is_changed_twice judged.1 ∙ changed_once db (map action_in aimed) (apart_in db aimed fit)

-- ---- made

abbrev are_accepted : Database → List TransactAction → Bool
are_accepted db actions = list_all (λ action. is_accepted (outcome_of db action)) actions

-- where all actions are accepted
transacted_made : (db : Database) (r : TransactWrite) (moment : ℕ) → are_accepted db r.actions ≡ true
    → transacted db r moment
    ≡ (with_token (made_all db r.actions (map (outcome_of db) r.actions)) r.token moment (numbered_all db r.actions), answer.TransactWritten r.consumed)
transacted_made db r moment accepted =
    cond-true (are_accepted db r.actions)
    (with_token (made_all db r.actions (map (outcome_of db) r.actions)) r.token moment (numbered_all db r.actions), answer.TransactWritten r.consumed)
    (refused db (Cancelled (map (reason_of db) r.actions))) accepted

-- and where one is not
transacted_not : (db : Database) (r : TransactWrite) (moment : ℕ) → are_accepted db r.actions ≡ false
    → transacted db r moment ≡ refused db (Cancelled (map (reason_of db) r.actions))
transacted_not db r moment accepted =
    cond-false (are_accepted db r.actions)
    (with_token (made_all db r.actions (map (outcome_of db) r.actions)) r.token moment (numbered_all db r.actions), answer.TransactWritten r.consumed)
    (refused db (Cancelled (map (reason_of db) r.actions))) accepted

made_database : (old new : Kept) (tokens : Tokens) (made : ℕ) (aimed : List Aimed) (changes : List TableChange) → AreFit (database_of old) aimed
    → AreJudged (database_of old) (map action_in aimed) (Ok changes) → IsChanged old changes new
    → made_all (database_in old tokens made) (map action_in aimed) (map (outcome_of (database_in old tokens made)) (map action_in aimed))
    ≡ database_in new tokens made
made_database old new tokens made aimed changes fit judged changed =
    let db : Database = database_in old tokens made in
    all_made db (map action_in aimed) (orders (database_of old) aimed fit.targets) (apart_in (database_of old) aimed fit)
    ∙ ap (changed_all db) (sym judged.1) ∙ sym (changed tokens made)

-- what is made by a call, whatever the token
pub made_with : (consumed : Option (List Consumed)) (old new : Kept) (tokens : Tokens) (made moment : ℕ) (aimed : List Aimed) (token : Option (List ℕ)) (changes : List TableChange)
    → AreFit (database_of old) aimed → AreJudged (database_of old) (map action_in aimed) (Ok changes) → IsChanged old changes new
    → transacted (database_in old tokens made) (request_of (map action_in aimed) token consumed) moment
    ≡ (with_token (database_in new tokens made) token moment (map (λ aimed. aimed.action) aimed), answer.TransactWritten consumed)
made_with consumed old new tokens made moment aimed token changes fit judged changed =
    let db : Database = database_in old tokens made in
    transacted_made db (request_of (map action_in aimed) token consumed) moment judged.0
    ∙ (λ i. (
      with_token (made_database old new tokens made aimed changes fit judged changed i) token moment (numbered_are (database_of old) aimed fit.targets i),
      answer.TransactWritten consumed,
    ))

pub not_made : (consumed : Option (List Consumed)) (old : Kept) (tokens : Tokens) (made moment : ℕ) (aimed : List Aimed) (token : Option (List ℕ)) (reasons : List Reason)
    → AreJudged (database_of old) (map action_in aimed) (Err reasons)
    → transacted (database_in old tokens made) (request_of (map action_in aimed) token consumed) moment
    ≡ (database_in old tokens made, answer.Refused (Cancelled reasons))
not_made consumed old tokens made moment aimed token reasons judged =
    let db : Database = database_in old tokens made in
    transacted_not db (request_of (map action_in aimed) token consumed) moment judged.0
    ∙ ap (λ (why : List Reason). refused db (Cancelled why)) (sym judged.1)

-- ---- tokens

pub put_back : (tokens : Tokens) (token : List ℕ) (kept : KeptToken (List NumberedAction)) → get tokens token ≡ None
    → remove (insert tokens token kept) token ≡ tokens
put_back tokens token kept none =
    same_tokens _ _ (λ other.
    get-remove nat_list_cmp_total (insert tokens token kept) token other
    ∙ ap (cond (eq_by_cmp (slice_cmp nat_cmp) other token) None) (get-insert nat_list_cmp_total tokens token kept other)
    ∙ by_test (eq_by_cmp (slice_cmp nat_cmp) other token) other refl)
  where
    by_test : (b : Bool) (other : List ℕ) → eq_by_cmp (slice_cmp nat_cmp) other token ≡ b
        → cond b None (cond b (Some kept) (get tokens other)) ≡ get tokens other
    by_test true other is = sym (ap (get tokens) (tied other token is) ∙ none)
    by_test false other is = refl

-- a token that is kept
pub kept_before : (old : Kept) (tokens : Tokens) (aimed : List Aimed) (token : List ℕ) (moment : ℕ) (kept : KeptToken (List NumberedAction))
    → AllByRecursion (IsTarget (database_of old)) aimed → get tokens token ≡ Some kept
    → IsAnswered old tokens (map action_in aimed) (Some token) moment old tokens (repeat_ending kept (map (λ aimed. aimed.action) aimed))
kept_before old tokens aimed token moment kept targets found =
    λ consumed made.
    let db : Database = database_in old tokens made in
    let r = request_of (map action_in aimed) (Some token) consumed in
    ap (repeated db r moment) found
    ∙ (λ i. cond (pointwise same_action kept.actions (numbered_are (database_of old) aimed targets i)) (db, answer.TransactWritten consumed)
    (refused db Mismatch))
    ∙ either (pointwise same_action kept.actions (map (λ aimed. aimed.action) aimed)) consumed db
  where
    either : (b : Bool) (consumed : Option (List Consumed)) (db : Database)
        → cond b (db, answer.TransactWritten consumed) (refused db Mismatch) ≡ (db, told consumed (cond b (Ok tt) (Err Mismatch)))
    either true consumed db = refl
    either false consumed db = refl

-- a token that is not
pub kept_now : (old new : Kept) (tokens kept : Tokens) (aimed : List Aimed) (token : List ℕ) (moment : ℕ) (changes : List TableChange) (ending : Ending)
    → AreFit (database_of old) aimed → AreJudged (database_of old) (map action_in aimed) (Ok changes) → get tokens token ≡ None
    → IsKept old tokens token (map (λ aimed. aimed.action) aimed) changes moment new kept ending
    → IsAnswered old tokens (map action_in aimed) (Some token) moment new kept ending
kept_now old new tokens kept aimed token moment changes ending fit judged none done =
    λ consumed made.
    let db : Database = database_in old tokens made in
    ap (repeated db (request_of (map action_in aimed) (Some token) consumed) moment) none
    ∙ made_with consumed old new tokens made moment aimed (Some token) changes fit judged done.0
    ∙ (λ i. (database_in new (sym done.1 i) made, told consumed (sym done.2 i)))

pub not_kept : (old : Kept) (tokens : Tokens) (aimed : List Aimed) (token : List ℕ) (moment : ℕ) (reasons : List Reason)
    → AreJudged (database_of old) (map action_in aimed) (Err reasons) → get tokens token ≡ None
    → IsAnswered old tokens (map action_in aimed) (Some token) moment old tokens (Err (Cancelled reasons))
not_kept old tokens aimed token moment reasons judged none =
    λ consumed made.
    ap (repeated (database_in old tokens made) (request_of (map action_in aimed) (Some token) consumed) moment) none
    ∙ not_made consumed old tokens made moment aimed (Some token) reasons judged

-- ---- the whole

pub all_refused : (old : Kept) (tokens : Tokens) (request : TransactWrite) (moment : ℕ) (why : Refusal)
    → IsChecked (database_of old) request.actions (Err why)
    → IsTransactWrite old tokens request moment old tokens (answer.Refused why)
all_refused old tokens request moment why is =
    λ made.
    let db : Database = database_in old tokens made in
    let living : Database = database_in old (purged tokens moment) made in
    ap (λ o. unless db o (repeated living request moment (kept_of living request.token))) is

pub all_answered : (old new : Kept) (tokens kept : Tokens) (request : TransactWrite) (moment : ℕ) (aimed : List Aimed) (ending : Ending)
    → IsChecked (database_of old) request.actions (Ok aimed)
    → IsAnswered old (purged tokens moment) (map action_in aimed) request.token moment new kept ending
    → IsTransactWrite old tokens request moment new kept (told request.consumed ending)
all_answered old new tokens kept request moment aimed ending checked answered =
    λ made.
    let db : Database = database_in old tokens made in
    let living : Database = database_in old (purged tokens moment) made in
    ap (λ o. unless db o (repeated living request moment (kept_of living request.token))) checked.0
    ∙ ap (λ actions. repeated living (request_of actions request.token request.consumed) moment (kept_of living request.token)) (sym checked.1)
    ∙ answered request.consumed made

-- ---- a token that is kept, and given up again

pub has_kept : (tokens new : Tokens) (token name q : List ℕ) (kept : KeptToken (List NumberedAction)) → new ≡ insert tokens name kept → name ≡ token → q ≡ token
    → IsSome (get new q)
has_kept tokens new token name q kept is same asked =
    ap is_some
    ((λ i. get (is i) (asked i))
    ∙ ap (λ k. get (insert tokens k kept) token) same
    ∙ get-insert nat_list_cmp_total tokens token kept token
    ∙ cond-true (eq_by_cmp (slice_cmp nat_cmp) token token) (Some kept) (get tokens token) (ap is_eq (tied_itself nat_list_cmp_total token)))

pub given_up : (tokens new after : Tokens) (token name q : List ℕ) (kept : KeptToken (List NumberedAction)) → new ≡ insert tokens name kept → name ≡ token → q ≡ token
    → get tokens token ≡ None → after ≡ remove new q → after ≡ tokens
given_up tokens new after token name q kept is same asked none gone =
    gone ∙ (λ i. remove (is i) (asked i)) ∙ ap (λ k. remove (insert tokens k kept) token) same ∙ put_back tokens token kept none
