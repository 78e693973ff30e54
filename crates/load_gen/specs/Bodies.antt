-- The bodies of requests, as JSON without spaces (API Reference: CreateTable, PutItem, TransactWriteItems).
use Rattle.std.specs.Prelude.{ℕ, zero, suc, ◌%◌, ℤ, pos, neg_ℤ, List, ◌++◌, codes, decimal}
use Rattle.std.specs.Fmt.{signed_decimal}
use Rattle.load_gen.specs.Accounts.{account_id, from_account, to_account, amount}

-- CreateTable of `Bank`, on demand, with the partition key `id`, and a global index `by_branch` of whole items with the partition
-- key `branch`
unfoldable pub table : List ℕ
table = codes "{\"AttributeDefinitions\":[{\"AttributeName\":\"id\",\"AttributeType\":\"S\"},"
    ++ codes "{\"AttributeName\":\"branch\",\"AttributeType\":\"S\"}],"
    ++ codes "\"TableName\":\"Bank\",\"KeySchema\":[{\"AttributeName\":\"id\",\"KeyType\":\"HASH\"}],"
    ++ codes "\"GlobalSecondaryIndexes\":[{\"IndexName\":\"by_branch\","
    ++ codes "\"KeySchema\":[{\"AttributeName\":\"branch\",\"KeyType\":\"HASH\"}],"
    ++ codes "\"Projection\":{\"ProjectionType\":\"ALL\"}}],\"BillingMode\":\"PAY_PER_REQUEST\"}"

-- PutItem of an account with 1000
unfoldable pub opening : ℕ → List ℕ
opening i = codes "{\"TableName\":\"Bank\",\"Item\":{\"id\":{\"S\":\"" ++ account_id i
    ++ codes "\"},\"branch\":{\"S\":\"b" ++ decimal (i % 8)
    ++ codes "\"},\"balance\":{\"N\":\"1000\"}}}"

-- the action of a transaction that adds to the balance of an account
unfoldable pub addition : ℕ → ℤ → List ℕ
addition i change = codes "{\"Update\":{\"TableName\":\"Bank\",\"Key\":{\"id\":{\"S\":\"" ++ account_id i
    ++ codes "\"}},\"UpdateExpression\":\"ADD balance :d\",\"ExpressionAttributeValues\":{\":d\":{\"N\":\""
    ++ signed_decimal change ++ codes "\"}}}}"

-- the requests that make the bank: first the table, and then its accounts in order
abbrev pub setup_body : ℕ → List ℕ
setup_body zero = table
setup_body (suc i) = opening i

-- TransactWriteItems of the transfer at a place, with a client's token of its own
unfoldable pub transfer_body : ℕ → ℕ → List ℕ
transfer_body start j = codes "{\"ClientRequestToken\":\"t" ++ decimal j ++ codes "\",\"TransactItems\":["
    ++ addition (from_account start j) (neg_ℤ (pos (amount j))) ++ codes ","
    ++ addition (to_account start j) (pos (amount j)) ++ codes "]}"
