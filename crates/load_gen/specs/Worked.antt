-- Worked examples: who pays whom in some transfers, and bodies written out.
use Rattle.std.specs.Prelude.{◌≡◌, codes, ◌++◌}
use Rattle.load_gen.specs.Accounts.{account_id, from_account, to_account, amount}
use Rattle.load_gen.specs.Bodies.{setup_body, transfer_body}

pub record Worked : Type 0 where
  -- the first and the last account
  pub first_account : account_id 0 ≡ codes "a00"
  pub last_account : account_id 63 ≡ codes "a63"
  -- of a load that starts with 7: at place 0 the account 7 pays 1 to 8, and at place 3 the account 28 pays 4 to 35
  pub first_from : from_account 7 0 ≡ 7
  pub first_to : to_account 7 0 ≡ 8
  pub first_amount : amount 0 ≡ 1
  pub from : from_account 7 3 ≡ 28
  pub to : to_account 7 3 ≡ 35
  pub paid : amount 3 ≡ 4
  -- behind the last account comes the first; an amount is at most 9
  pub last_to_first : to_account 63 0 ≡ 0
  pub first_again : from_account 1 9 ≡ 0
  pub most : amount 8 ≡ 9
  -- the request that makes the account 7
  pub opened : setup_body 8
      ≡ codes "{\"TableName\":\"Bank\",\"Item\":{\"id\":{\"S\":\"a07\"},\"branch\":{\"S\":\"b7\"},\"balance\":{\"N\":\"1000\"}}}"
  -- the transfer at place 3
  pub transferred : transfer_body 7 3
      ≡ codes "{\"ClientRequestToken\":\"t3\",\"TransactItems\":["
      ++ codes "{\"Update\":{\"TableName\":\"Bank\",\"Key\":{\"id\":{\"S\":\"a28\"}},"
      ++ codes "\"UpdateExpression\":\"ADD balance :d\",\"ExpressionAttributeValues\":{\":d\":{\"N\":\"-4\"}}}},"
      ++ codes "{\"Update\":{\"TableName\":\"Bank\",\"Key\":{\"id\":{\"S\":\"a35\"}},"
      ++ codes "\"UpdateExpression\":\"ADD balance :d\",\"ExpressionAttributeValues\":{\":d\":{\"N\":\"4\"}}}}]}"
