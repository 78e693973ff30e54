-- What the forms state: the rule of each, and its members and words by the tables of the code.
use Rattle.std.specs.Prelude.{ℕ, List, [], ◌∷◌, map, Bool, true, false, ◌||◌, ◌&&◌, bytes_eq}
use Rattle.std.specs.Cmp.Lexicographic.{slice_cmp}
use Rattle.std.specs.Ordering.{nat_cmp, is_lt}
use Rattle.api_form.specs.Names.{text_of}
use Rattle.api_form.specs.declared.form.Form.{Form}
use Rattle.api_form.specs.declared.form.Form.TheVariants as form
use Rattle.api_form.specs.declared.form.Rule.{Rule}
use Rattle.api_form.specs.declared.form.Rule.TheVariants as rule
use Rattle.api_form.specs.declared.form.Member.{Member}
use Rattle.api_form.specs.declared.tables.TheConstants as table
use Rattle.api_form.specs.declared.words.Words.{Words}
use Rattle.api_form.specs.declared.words.Words.TheVariants as words
use Rattle.api_form.specs.declared.words.TheConstants as word

-- what a form states: an object with the members of its table, but for what stands in lists and maps
abbrev pub rule_of : Form → Rule
rule_of form.Item = table.ITEM
rule_of form.Value = rule.Value
rule_of form.Text = table.TEXT
rule_of form.FilledText = table.FILLED_TEXT
rule_of form.WriteRequests = table.WRITE_REQUESTS
rule_of form.WriteRequest = rule.OneOf form.WriteRequest
rule_of form.TransactWrite = rule.OneOf form.TransactWrite
rule_of other = rule.Object other

-- the members that a form states; none where it states none
abbrev pub members_of : Form → List Member
members_of form.CreateTable = table.CREATE_TABLE
members_of form.DeleteTable = table.NAMED_TABLE
members_of form.DescribeTable = table.NAMED_TABLE
members_of form.DescribeTimeToLive = table.NAMED_TABLE
members_of form.UpdateTable = table.UPDATE_TABLE
members_of form.ListTables = table.LIST_TABLES
members_of form.UpdateTimeToLive = table.UPDATE_TIME_TO_LIVE
members_of form.PutItem = table.PUT_ITEM
members_of form.GetItem = table.GET_ITEM
members_of form.UpdateItem = table.UPDATE_ITEM
members_of form.DeleteItem = table.DELETE_ITEM
members_of form.BatchGetItem = table.BATCH_GET_ITEM
members_of form.BatchWriteItem = table.BATCH_WRITE_ITEM
members_of form.Query = table.QUERY
members_of form.Scan = table.SCAN
members_of form.TransactWriteItems = table.TRANSACT_WRITE_ITEMS
members_of form.TransactGetItems = table.TRANSACT_GET_ITEMS
members_of form.Definition = table.DEFINITION
members_of form.KeyElement = table.KEY_ELEMENT
members_of form.Index = table.INDEX
members_of form.Projection = table.PROJECTION
members_of form.Throughput = table.THROUGHPUT
members_of form.IndexUpdate = table.INDEX_UPDATE
members_of form.DeletedIndex = table.DELETED_INDEX
members_of form.TimeToLiveSpecification = table.TIME_TO_LIVE_SPECIFICATION
members_of form.KeysAndAttributes = table.KEYS_AND_ATTRIBUTES
members_of form.WriteRequest = table.WRITE_REQUEST
members_of form.PutRequest = table.PUT_REQUEST
members_of form.DeleteRequest = table.DELETE_REQUEST
members_of form.TransactWrite = table.TRANSACT_WRITE
members_of form.ConditionCheck = table.CONDITION_CHECK
members_of form.Delete = table.DELETE
members_of form.Put = table.PUT
members_of form.Update = table.UPDATE
members_of form.TransactGet = table.TRANSACT_GET
members_of form.Get = table.GET
members_of form.AttributeValueUpdate = table.ATTRIBUTE_VALUE_UPDATE
members_of form.Condition = table.CONDITION_OF_ATTRIBUTE
members_of form.ExpectedAttributeValue = table.EXPECTED_ATTRIBUTE_VALUE
members_of _ = []

-- the names are in the order of their bytes, each once
abbrev pub is_below_first : Member → List Member → Bool
is_below_first m [] = true
is_below_first m (n ∷ ns) = is_lt (slice_cmp nat_cmp (text_of m.0) (text_of n.0))

abbrev pub ascends : List Member → Bool
ascends [] = true
ascends (m ∷ ms) = is_below_first m ms && ascends ms

-- the words, by the tables of the code
abbrev pub words_of : Words → List (List ℕ)
words_of words.AttributeType = map (λ word. word.now) word.ATTRIBUTE_TYPE
words_of words.BillingMode = map (λ word. word.now) word.BILLING_MODE
words_of words.ConsumedCapacity = map (λ word. word.now) word.CONSUMED_CAPACITY
words_of words.KeyType = map (λ word. word.now) word.KEY_TYPE
words_of words.OldImage = map (λ word. word.now) word.OLD_IMAGE
words_of words.ProjectionType = map (λ word. word.now) word.PROJECTION_TYPE
words_of words.Select = map (λ word. word.now) word.SELECT
words_of words.UpdateImage = map (λ word. word.now) word.UPDATE_IMAGE

abbrev pub is_one_of : List ℕ → List (List ℕ) → Bool
is_one_of text [] = false
is_one_of text (word ∷ words) = bytes_eq text word || is_one_of text words

-- whether a text is one of the words
abbrev pub has_word : Words → List ℕ → Bool
has_word words text = is_one_of text (words_of words)
