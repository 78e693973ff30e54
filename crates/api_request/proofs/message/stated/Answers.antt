use Rattle.std.proofs.Common.{refl, sym, subst, Ok}
use Rattle.std.proofs.lemmas.Result.{err_from_is_err_and}
use Rattle.serde_json.specs.View.{view}
use Rattle.table_request.specs.declared.request.Request.TheVariants as request
use Rattle.api_request.specs.declared.operation.Operation.{Operation}
use Rattle.api_request.specs.declared.operation.Operation.TheVariants as operation
use Rattle.api_request.specs.Items.{IsPutItem, IsGetItem, IsUpdateItem, IsDeleteItem}
use Rattle.api_request.specs.Pages.{IsScan}
use Rattle.api_request.specs.Legacy.{WithLegacy, in_put, in_get, in_update, in_delete, in_scan, IsAnyQuery}
use Rattle.request_parts.specs.declared.legacy.LegacyKind.TheVariants as kind
use Rattle.api_request.specs.Batches.{IsBatchGet}
use Rattle.api_request.specs.Transactions.{IsTransactWrite, IsTransactGet}
use Rattle.api_request.specs.Schemas.{IsCreateTable}
use Rattle.api_request.specs.Tables.{IsUpdateTable}
use Rattle.api_request.specs.Requests.{IsStated}
use Rattle.api_request.proofs.Messages.{one_refused}
use Rattle.api_request.proofs.message.stated.Goals as goal

pub returns-in_err-put_item-in-PutItem : goal.returns-in_err-put_item-in-PutItem
returns-in_err-put_item-in-PutItem c =
    let d = view c.args.json.now in
    let p = err_from_is_err_and c.from_residual.result c.from_residual.ensures.1 in
    rw (p.1, p.2) (one_refused request.PutItem (WithLegacy kind.Write in_put IsPutItem d) c.args.operation operation.PutItem d c.in_err-put_item-in-PutItem.field-0.0 c.in-PutItem.is (λ why told. told) c.in_err-put_item-in-PutItem.ensures)

pub returns-in_err-get_item-in-GetItem : goal.returns-in_err-get_item-in-GetItem
returns-in_err-get_item-in-GetItem c =
    let d = view c.args.json.now in
    let p = err_from_is_err_and c.from_residual-in_err-get_item-in-GetItem.result c.from_residual-in_err-get_item-in-GetItem.ensures.1 in
    rw (p.1, p.2) (one_refused request.GetItem (WithLegacy kind.Read in_get IsGetItem d) c.args.operation operation.GetItem d c.in_err-get_item-in-GetItem.field-0.0 c.in-GetItem.is (λ why told. told) c.in_err-get_item-in-GetItem.ensures)

pub returns-in_err-update_item-in-UpdateItem : goal.returns-in_err-update_item-in-UpdateItem
returns-in_err-update_item-in-UpdateItem c =
    let d = view c.args.json.now in
    let p = err_from_is_err_and c.from_residual-in_err-update_item-in-UpdateItem.result c.from_residual-in_err-update_item-in-UpdateItem.ensures.1 in
    rw (p.1, p.2) (one_refused request.UpdateItem (WithLegacy kind.Update in_update IsUpdateItem d) c.args.operation operation.UpdateItem d c.in_err-update_item-in-UpdateItem.field-0.0 c.in-UpdateItem.is (λ why told. told) c.in_err-update_item-in-UpdateItem.ensures)

pub returns-in_err-delete_item-in-DeleteItem : goal.returns-in_err-delete_item-in-DeleteItem
returns-in_err-delete_item-in-DeleteItem c =
    let d = view c.args.json.now in
    let p = err_from_is_err_and c.from_residual-in_err-delete_item-in-DeleteItem.result c.from_residual-in_err-delete_item-in-DeleteItem.ensures.1 in
    rw (p.1, p.2) (one_refused request.DeleteItem (WithLegacy kind.Write in_delete IsDeleteItem d) c.args.operation operation.DeleteItem d c.in_err-delete_item-in-DeleteItem.field-0.0 c.in-DeleteItem.is (λ why told. told) c.in_err-delete_item-in-DeleteItem.ensures)

pub returns-in_err-query-in-Query : goal.returns-in_err-query-in-Query
returns-in_err-query-in-Query c =
    let d = view c.args.json.now in
    let p = err_from_is_err_and c.from_residual-in_err-query-in-Query.result c.from_residual-in_err-query-in-Query.ensures.1 in
    rw (p.1, p.2) (one_refused request.Query (IsAnyQuery d) c.args.operation operation.Query d c.in_err-query-in-Query.field-0.0 c.in-Query.is (λ why told. told) c.in_err-query-in-Query.ensures)

pub returns-in_err-scan-in-Scan : goal.returns-in_err-scan-in-Scan
returns-in_err-scan-in-Scan c =
    let d = view c.args.json.now in
    let p = err_from_is_err_and c.from_residual-in_err-scan-in-Scan.result c.from_residual-in_err-scan-in-Scan.ensures.1 in
    rw (p.1, p.2) (one_refused request.Scan (WithLegacy kind.Scan in_scan IsScan d) c.args.operation operation.Scan d c.in_err-scan-in-Scan.field-0.0 c.in-Scan.is (λ why told. told) c.in_err-scan-in-Scan.ensures)

pub returns-in_err-batch_get-in-BatchGetItem : goal.returns-in_err-batch_get-in-BatchGetItem
returns-in_err-batch_get-in-BatchGetItem c =
    let d = view c.args.json.now in
    let p = err_from_is_err_and c.from_residual-in_err-batch_get-in-BatchGetItem.result c.from_residual-in_err-batch_get-in-BatchGetItem.ensures.1 in
    rw (p.1, p.2) (one_refused request.BatchGet (IsBatchGet d) c.args.operation operation.BatchGetItem d c.in_err-batch_get-in-BatchGetItem.field-0.0 c.in-BatchGetItem.is (λ why told. told) c.in_err-batch_get-in-BatchGetItem.ensures)

pub returns-in_err-transact_write-in-TransactWriteItems : goal.returns-in_err-transact_write-in-TransactWriteItems
returns-in_err-transact_write-in-TransactWriteItems c =
    let d = view c.args.json.now in
    let p = err_from_is_err_and c.from_residual-in_err-transact_write-in-TransactWriteItems.result c.from_residual-in_err-transact_write-in-TransactWriteItems.ensures.1 in
    rw (p.1, p.2) (one_refused request.TransactWrite (IsTransactWrite d) c.args.operation operation.TransactWriteItems d c.in_err-transact_write-in-TransactWriteItems.field-0.0 c.in-TransactWriteItems.is (λ why told. told) c.in_err-transact_write-in-TransactWriteItems.ensures)

pub returns-in_err-transact_get-in-TransactGetItems : goal.returns-in_err-transact_get-in-TransactGetItems
returns-in_err-transact_get-in-TransactGetItems c =
    let d = view c.args.json.now in
    let p = err_from_is_err_and c.from_residual-in_err-transact_get-in-TransactGetItems.result c.from_residual-in_err-transact_get-in-TransactGetItems.ensures.1 in
    rw (p.1, p.2) (one_refused request.TransactGet (IsTransactGet d) c.args.operation operation.TransactGetItems d c.in_err-transact_get-in-TransactGetItems.field-0.0 c.in-TransactGetItems.is (λ why told. told) c.in_err-transact_get-in-TransactGetItems.ensures)

pub returns-in_err-create_table-in-CreateTable : goal.returns-in_err-create_table-in-CreateTable
returns-in_err-create_table-in-CreateTable c =
    let d = view c.args.json.now in
    let p = err_from_is_err_and c.from_residual-in_err-create_table-in-CreateTable.result c.from_residual-in_err-create_table-in-CreateTable.ensures.1 in
    rw (p.1, p.2) (one_refused request.CreateTable (IsCreateTable d) c.args.operation operation.CreateTable d c.in_err-create_table-in-CreateTable.field-0.0 c.in-CreateTable.is (λ why told. told) c.in_err-create_table-in-CreateTable.ensures)

pub returns-in_err-update_table-in-UpdateTable : goal.returns-in_err-update_table-in-UpdateTable
returns-in_err-update_table-in-UpdateTable c =
    let d = view c.args.json.now in
    let p = err_from_is_err_and c.from_residual-in_err-update_table-in-UpdateTable.result c.from_residual-in_err-update_table-in-UpdateTable.ensures.1 in
    rw (p.1, p.2) (one_refused request.UpdateTable (IsUpdateTable d) c.args.operation operation.UpdateTable d c.in_err-update_table-in-UpdateTable.field-0.0 c.in-UpdateTable.is (λ why told. told) c.in_err-update_table-in-UpdateTable.ensures)

pub returns-in_ok-put_item-in-PutItem : goal.returns-in_ok-put_item-in-PutItem
returns-in_ok-put_item-in-PutItem c =
    subst (λ (x : Operation). IsStated x (view c.args.json.now) (Ok (request.PutItem c.in_ok-put_item-in-PutItem.field-0))) (sym c.in-PutItem.is) (c.in_ok-put_item-in-PutItem.field-0, refl, c.in_ok-put_item-in-PutItem.ensures)

pub returns-in_ok-get_item-in-GetItem : goal.returns-in_ok-get_item-in-GetItem
returns-in_ok-get_item-in-GetItem c =
    subst (λ (x : Operation). IsStated x (view c.args.json.now) (Ok (request.GetItem c.in_ok-get_item-in-GetItem.field-0))) (sym c.in-GetItem.is) (c.in_ok-get_item-in-GetItem.field-0, refl, c.in_ok-get_item-in-GetItem.ensures)

pub returns-in_ok-update_item-in-UpdateItem : goal.returns-in_ok-update_item-in-UpdateItem
returns-in_ok-update_item-in-UpdateItem c =
    subst (λ (x : Operation). IsStated x (view c.args.json.now) (Ok (request.UpdateItem c.in_ok-update_item-in-UpdateItem.field-0))) (sym c.in-UpdateItem.is) (c.in_ok-update_item-in-UpdateItem.field-0, refl, c.in_ok-update_item-in-UpdateItem.ensures)

pub returns-in_ok-delete_item-in-DeleteItem : goal.returns-in_ok-delete_item-in-DeleteItem
returns-in_ok-delete_item-in-DeleteItem c =
    subst (λ (x : Operation). IsStated x (view c.args.json.now) (Ok (request.DeleteItem c.in_ok-delete_item-in-DeleteItem.field-0))) (sym c.in-DeleteItem.is) (c.in_ok-delete_item-in-DeleteItem.field-0, refl, c.in_ok-delete_item-in-DeleteItem.ensures)

pub returns-in_ok-query-in-Query : goal.returns-in_ok-query-in-Query
returns-in_ok-query-in-Query c =
    subst (λ (x : Operation). IsStated x (view c.args.json.now) (Ok (request.Query c.in_ok-query-in-Query.field-0))) (sym c.in-Query.is) (c.in_ok-query-in-Query.field-0, refl, c.in_ok-query-in-Query.ensures)

pub returns-in_ok-scan-in-Scan : goal.returns-in_ok-scan-in-Scan
returns-in_ok-scan-in-Scan c =
    subst (λ (x : Operation). IsStated x (view c.args.json.now) (Ok (request.Scan c.in_ok-scan-in-Scan.field-0))) (sym c.in-Scan.is) (c.in_ok-scan-in-Scan.field-0, refl, c.in_ok-scan-in-Scan.ensures)

pub returns-in_ok-batch_get-in-BatchGetItem : goal.returns-in_ok-batch_get-in-BatchGetItem
returns-in_ok-batch_get-in-BatchGetItem c =
    subst (λ (x : Operation). IsStated x (view c.args.json.now) (Ok (request.BatchGet c.in_ok-batch_get-in-BatchGetItem.field-0))) (sym c.in-BatchGetItem.is) (c.in_ok-batch_get-in-BatchGetItem.field-0, refl, c.in_ok-batch_get-in-BatchGetItem.ensures)

pub returns-in_ok-transact_write-in-TransactWriteItems : goal.returns-in_ok-transact_write-in-TransactWriteItems
returns-in_ok-transact_write-in-TransactWriteItems c =
    subst (λ (x : Operation). IsStated x (view c.args.json.now) (Ok (request.TransactWrite c.in_ok-transact_write-in-TransactWriteItems.field-0))) (sym c.in-TransactWriteItems.is) (c.in_ok-transact_write-in-TransactWriteItems.field-0, refl, c.in_ok-transact_write-in-TransactWriteItems.ensures)

pub returns-in_ok-transact_get-in-TransactGetItems : goal.returns-in_ok-transact_get-in-TransactGetItems
returns-in_ok-transact_get-in-TransactGetItems c =
    subst (λ (x : Operation). IsStated x (view c.args.json.now) (Ok (request.TransactGet c.in_ok-transact_get-in-TransactGetItems.field-0))) (sym c.in-TransactGetItems.is) (c.in_ok-transact_get-in-TransactGetItems.field-0, refl, c.in_ok-transact_get-in-TransactGetItems.ensures)

pub returns-in_ok-create_table-in-CreateTable : goal.returns-in_ok-create_table-in-CreateTable
returns-in_ok-create_table-in-CreateTable c =
    subst (λ (x : Operation). IsStated x (view c.args.json.now) (Ok (request.CreateTable c.in_ok-create_table-in-CreateTable.field-0))) (sym c.in-CreateTable.is) (c.in_ok-create_table-in-CreateTable.field-0, refl, c.in_ok-create_table-in-CreateTable.ensures)

pub returns-in_ok-update_table-in-UpdateTable : goal.returns-in_ok-update_table-in-UpdateTable
returns-in_ok-update_table-in-UpdateTable c =
    subst (λ (x : Operation). IsStated x (view c.args.json.now) (Ok (request.UpdateTable c.in_ok-update_table-in-UpdateTable.field-0))) (sym c.in-UpdateTable.is) (c.in_ok-update_table-in-UpdateTable.field-0, refl, c.in_ok-update_table-in-UpdateTable.ensures)

pub returns-in_ok-batch_write-in-BatchWriteItem : goal.returns-in_ok-batch_write-in-BatchWriteItem
returns-in_ok-batch_write-in-BatchWriteItem c =
    subst (λ (x : Operation). IsStated x (view c.args.json.now) (Ok (request.BatchWrite c.in_ok-batch_write-in-BatchWriteItem.field-0))) (sym c.in-BatchWriteItem.is) (c.in_ok-batch_write-in-BatchWriteItem.field-0, refl, c.in_ok-batch_write-in-BatchWriteItem.ensures)

pub returns-in_ok-delete_table-in-DeleteTable : goal.returns-in_ok-delete_table-in-DeleteTable
returns-in_ok-delete_table-in-DeleteTable c =
    subst (λ (x : Operation). IsStated x (view c.args.json.now) (Ok (request.DeleteTable c.in_ok-delete_table-in-DeleteTable.field-0))) (sym c.in-DeleteTable.is) (c.in_ok-delete_table-in-DeleteTable.field-0, refl, c.in_ok-delete_table-in-DeleteTable.ensures)

pub returns-in_ok-describe_table-in-DescribeTable : goal.returns-in_ok-describe_table-in-DescribeTable
returns-in_ok-describe_table-in-DescribeTable c =
    subst (λ (x : Operation). IsStated x (view c.args.json.now) (Ok (request.DescribeTable c.in_ok-describe_table-in-DescribeTable.field-0))) (sym c.in-DescribeTable.is) (c.in_ok-describe_table-in-DescribeTable.field-0, refl, c.in_ok-describe_table-in-DescribeTable.ensures)

pub returns-in_ok-list_tables-in-ListTables : goal.returns-in_ok-list_tables-in-ListTables
returns-in_ok-list_tables-in-ListTables c =
    subst (λ (x : Operation). IsStated x (view c.args.json.now) (Ok (request.ListTables c.in_ok-list_tables-in-ListTables.field-0))) (sym c.in-ListTables.is) (c.in_ok-list_tables-in-ListTables.field-0, refl, c.in_ok-list_tables-in-ListTables.ensures)

pub returns-in_ok-update_time_to_live-in-UpdateTimeToLive : goal.returns-in_ok-update_time_to_live-in-UpdateTimeToLive
returns-in_ok-update_time_to_live-in-UpdateTimeToLive c =
    subst (λ (x : Operation). IsStated x (view c.args.json.now) (Ok (request.UpdateTimeToLive c.in_ok-update_time_to_live-in-UpdateTimeToLive.field-0))) (sym c.in-UpdateTimeToLive.is) (c.in_ok-update_time_to_live-in-UpdateTimeToLive.field-0, refl, c.in_ok-update_time_to_live-in-UpdateTimeToLive.ensures)

pub returns-in_ok-describe_time_to_live-in-DescribeTimeToLive : goal.returns-in_ok-describe_time_to_live-in-DescribeTimeToLive
returns-in_ok-describe_time_to_live-in-DescribeTimeToLive c =
    subst (λ (x : Operation). IsStated x (view c.args.json.now) (Ok (request.DescribeTimeToLive c.in_ok-describe_time_to_live-in-DescribeTimeToLive.field-0))) (sym c.in-DescribeTimeToLive.is) (c.in_ok-describe_time_to_live-in-DescribeTimeToLive.field-0, refl, c.in_ok-describe_time_to_live-in-DescribeTimeToLive.ensures)
