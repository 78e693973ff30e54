-- What is read of all items, table after table.
use Rattle.std.proofs.Common.{◌≡◌, ℕ, zero, suc, ◌+◌, ◌-◌, ◌<◌, ◌≤◌, min, List, [], ◌∷◌, ◌++◌, map, length, take, drop, Bool, true, false, cond, Option, None, Some, Result, Ok, Err, refl, sym, ap, ◌∙◌, arith, append_assoc}
use Rattle.std.specs.Prelude.{filter_map, nat_lt}
use Rattle.std.specs.List.{flat_map}
use Rattle.std.proofs.lemmas.List.{drop_all, length-drop, length-map, take-map, drop-map, take_min, drop_min, drop-drop}
use Rattle.std.proofs.lemmas.Bool.{cond-true, cond-false, lt-ltb, le-ltb}
use Rattle.attr_value.specs.Tree.{Attributes}
use Rattle.attr_value.specs.Sizes.{item_size}
use Rattle.item_keys.specs.declared.fault.KeyFault.{KeyFault}
use Rattle.item_keys.specs.declared.key.Key.{Key}
use Rattle.table_request.specs.declared.batches.BatchGet.{BatchGet}
use Rattle.table_request.specs.declared.batches.TableKeys.{TableKeys}
use Rattle.table_request.specs.declared.consumed.Consumed.{Consumed}
use Rattle.table_model.specs.declared.reply.Reply.{Reply}
use Rattle.table_model.specs.declared.reply.Reply.TheVariants.{BatchRead, Refused}
use Rattle.table_model.specs.declared.reply.FoundItems.{FoundItems}
use Rattle.table_model.specs.declared.refusal.Refusal.{Refusal}
use Rattle.table_model.specs.Database.{Database, Table, table_named, first, unless}
use Rattle.table_model.specs.Batches.{missing, missing_if, key_refusal, place_if, asked_keys, asked_keys_if, asked_items, asked_items_if, most_batch_bytes, read_count, found, found_in, unread, unread_in, used_by_keys, used_by_reads, batch_get, batch_get_refusal}
use Rattle.numbered_tables.specs.Tables.{Kept, database_in}
use Rattle.table_batches.specs.Answers.{IsRead, tables_alone}
use Rattle.table_model.specs.Consumed.{where_asked, bytes_of}
use Rattle.table_batches.specs.Reads.{shown, found_among, used_among, read_of}

-- ---- how many are read

few_or_all : (b : Bool) (m n : ℕ) → m ≤ n → cond b 0 (suc m) ≤ suc n
few_or_all true m n h = omega arith
few_or_all false m n h = omega arith

-- no more than there are
pub within : (room : ℕ) (items : List (Option Attributes)) → read_count room items ≤ length items
within room [] = omega arith
within room (None ∷ items) = let h : read_count room items ≤ length items = within room items in omega arith
within room (Some item ∷ items) =
    few_or_all (nat_lt room (item_size item)) (read_count (room - item_size item) items) (length items) (within (room - item_size item) items)

-- an item without room ends the reading
pub ends_at : (room : ℕ) (item : Option Attributes) (items : List (Option Attributes)) → room < bytes_of item → read_count room (item ∷ items) ≡ 0
ends_at room None items h = absurd (omega arith)
ends_at room (Some item) items h =
    cond-true (nat_lt room (item_size item)) 0 (suc (read_count (room - item_size item) items)) (lt-ltb room (item_size item) (omega arith))

-- one with room is read
pub goes_on :
    (room : ℕ) (item : Option Attributes) (items : List (Option Attributes)) → bytes_of item ≤ room → room ≤ most_batch_bytes
    → read_count room (item ∷ items) ≡ suc (read_count (room - bytes_of item) items)
goes_on room None items h few =
    let same : room ≡ room - 0 = omega arith in
    ap (λ (n : ℕ). suc (read_count n items)) same
goes_on room (Some item) items h few =
    let fits : item_size item ≤ room = omega arith in
    let same : item_size item ≡ bytes_of (Some item) = omega arith in
    cond-false (nat_lt room (item_size item)) 0 (suc (read_count (room - item_size item) items)) (le-ltb room (item_size item) fits)
    ∙ ap (λ (n : ℕ). suc (read_count (room - n) items)) same

-- one item more is counted
pub counted_more :
    (read room : ℕ) (item : Option Attributes) (items left : List (Option Attributes)) (whole : ℕ) → left ≡ item ∷ items → bytes_of item ≤ room
    → room ≤ most_batch_bytes → read + read_count room left ≡ whole → (read + 1) + read_count (room - bytes_of item) items ≡ whole
counted_more read room item items left whole is fits few before =
    let one : read_count room left ≡ suc (read_count (room - bytes_of item) items) = ap (read_count room) is ∙ goes_on room item items fits few in
    omega arith

-- and none more
pub counted :
    (read room : ℕ) (item : Option Attributes) (items left : List (Option Attributes)) (whole : ℕ) → left ≡ item ∷ items → room < bytes_of item
    → read + read_count room left ≡ whole → read ≡ whole
counted read room item items left whole is full before =
    let none : read_count room left ≡ 0 = ap (read_count room) is ∙ ends_at room item items full in
    omega arith

-- ---- what is shown of each table

-- one element more stands before those that follow
pub pushed : {X : Type 0} (so_far more rest whole : List X) (x : X) → more ≡ so_far ++ x ∷ [] → so_far ++ x ∷ rest ≡ whole → more ++ rest ≡ whole
pushed so_far more rest whole x is before = ap (λ (xs : List _). xs ++ rest) is ∙ append_assoc so_far (x ∷ []) rest ∙ before

-- a part of the items, as it is cut out of them
pub cut_front :
    {X Y : Type 0} (f : X → Y) (n start count : ℕ) (xs : List X) → count ≡ min n (length xs - start)
    → map f (take count (drop start xs)) ≡ take n (map f (drop start xs))
cut_front f n start count xs is =
    ap (λ (m : ℕ). map f (take m (drop start xs))) (is ∙ ap (min n) (sym (length-drop start xs)))
    ∙ ap (map f) (take_min n (drop start xs)) ∙ sym (take-map f n (drop start xs))

pub cut_back :
    {X Y : Type 0} (f : X → Y) (n start count : ℕ) (xs : List X) → count ≡ min n (length xs - start)
    → map f (drop (start + count) xs) ≡ drop n (map f (drop start xs))
cut_back f n start count xs is =
    ap (map f) (sym (drop-drop count start xs)
    ∙ ap (λ (m : ℕ). drop m (drop start xs)) (is ∙ ap (min n) (sym (length-drop start xs))) ∙ drop_min n (drop start xs))
    ∙ sym (drop-map f n (drop start xs))

front : {X : Type 0} (xs ys : List X) (count : ℕ) → take (length xs) (take count (xs ++ ys)) ≡ take count xs
front [] ys zero = refl
front [] ys (suc count) = refl
front (x ∷ xs) ys zero = refl
front (x ∷ xs) ys (suc count) = ap (λ (zs : List _). x ∷ zs) (front xs ys count)

back : {X : Type 0} (xs ys : List X) (count : ℕ) → drop (length xs) (take count (xs ++ ys)) ≡ take (count - length xs) ys
back [] ys count =
    let same : count ≡ count - 0 = omega arith in
    ap (λ (n : ℕ). take n ys) same
back (x ∷ xs) ys zero =
    let same : 0 ≡ 0 - suc (length xs) = omega arith in
    ap (λ (n : ℕ). take n ys) same
back (x ∷ xs) ys (suc count) =
    let same : count - length xs ≡ suc count - suc (length xs) = omega arith in
    back xs ys count ∙ ap (λ (n : ℕ). take n ys) same

-- as many items are asked of each table as it has keys
abbrev pub HaveItems : Database → List TableKeys → Type 0
HaveItems db [] = Unit {0}
HaveItems db (t ∷ ts) = (length (asked_items db t) ≡ length t.keys) × HaveItems db ts

pub found_is :
    (db : Database) (ts : List TableKeys) (count : ℕ) → HaveItems db ts
    → found_among ts (take count (flat_map (asked_items db) ts)) ≡ found db count ts
found_is db [] count all = refl
found_is db (t ∷ ts) count all =
    let xs = asked_items db t in
    let ys = flat_map (asked_items db) ts in
    let here : take (length t.keys) (take count (xs ++ ys)) ≡ take count xs =
    ap (λ (n : ℕ). take n (take count (xs ++ ys))) (sym all.0) ∙ front xs ys count in
    let rest : drop (length t.keys) (take count (xs ++ ys)) ≡ take (count - length t.keys) ys =
    ap (λ (n : ℕ). drop n (take count (xs ++ ys))) (sym all.0) ∙ back xs ys count ∙ ap (λ (n : ℕ). take (count - n) ys) all.0 in
    (λ i. (let r : FoundItems = record { table = t.table; items = shown t.projection (here i) } in r) ∷ found_among ts (rest i))
    ∙ ap (λ (fs : List FoundItems). found_in db count t ∷ fs) (found_is db ts (count - length t.keys) all.1)

pub used_is :
    (db : Database) (ts : List TableKeys) (count : ℕ) → HaveItems db ts
    → used_among ts (take count (flat_map (asked_items db) ts)) ≡ used_by_reads db count ts
used_is db [] count all = refl
used_is db (t ∷ ts) count all =
    let xs = asked_items db t in
    let ys = flat_map (asked_items db) ts in
    let here : take (length t.keys) (take count (xs ++ ys)) ≡ take count xs =
    ap (λ (n : ℕ). take n (take count (xs ++ ys))) (sym all.0) ∙ front xs ys count in
    let rest : drop (length t.keys) (take count (xs ++ ys)) ≡ take (count - length t.keys) ys =
    ap (λ (n : ℕ). drop n (take count (xs ++ ys))) (sym all.0) ∙ back xs ys count ∙ ap (λ (n : ℕ). take (count - n) ys) all.0 in
    (λ i. used_by_keys t (here i) ∷ used_among ts (rest i))
    ∙ ap (λ (us : List Consumed). used_by_keys t (take count xs) ∷ us) (used_is db ts (count - length t.keys) all.1)

-- ---- what is not read

pub none_left : (t : TableKeys) (count : ℕ) → length t.keys ≤ count → unread_in t (drop count t.keys) [] ≡ []
none_left t count h = ap (λ (ks : List Attributes). unread_in t ks []) (drop_all count t.keys h)

pub some_left : (t : TableKeys) (count : ℕ) → count < length t.keys → unread_in t (drop count t.keys) [] ≡ record t { keys = drop count t.keys } ∷ []
some_left t count h = go (drop count t.keys) (length-drop count t.keys)
  where
    go : (ks : List Attributes) → length ks ≡ length t.keys - count → unread_in t ks [] ≡ record t { keys = ks } ∷ []
    go [] e = absurd (omega arith)
    go (k ∷ ks) e = refl

unread_before : (t : TableKeys) (ks : List Attributes) (rest : List TableKeys) → unread_in t ks [] ++ rest ≡ unread_in t ks rest
unread_before t [] rest = refl
unread_before t (k ∷ ks) rest = refl

pub one_table :
    (rest : List TableKeys) (t : TableKeys) (ts : List TableKeys) (count : ℕ)
    → (rest ++ unread_in t (drop count t.keys) []) ++ unread (count - length t.keys) ts ≡ rest ++ unread count (t ∷ ts)
one_table rest t ts count =
    append_assoc rest (unread_in t (drop count t.keys) []) (unread (count - length t.keys) ts)
    ∙ ap (λ (us : List TableKeys). rest ++ us) (unread_before t (drop count t.keys) (unread (count - length t.keys) ts))

-- ---- whole requests

both_none : (o : Option Refusal) (os : List (Option Refusal)) → first (o ∷ os) ≡ None → (o ≡ None) × (first os ≡ None)
both_none None os is = (refl, is)
both_none (Some why) os is = absurd (cc)

all_keys :
    (rs more : List (Result Key KeyFault)) → first (map key_refusal (rs ++ more)) ≡ None
    → (length (filter_map place_if rs) ≡ length rs) × (first (map key_refusal more) ≡ None)
all_keys [] more is = (refl, is)
all_keys (Err fault ∷ rs) more is = absurd (cc)
all_keys (Ok key ∷ rs) more is =
    let rest = all_keys rs more is in
    (ap (λ (n : ℕ). suc n) rest.0, rest.1)

at_table :
    (o : Option Table) (t : TableKeys) (more : List (Result Key KeyFault)) → missing_if t.table o ≡ None
    → first (map key_refusal (asked_keys_if o t ++ more)) ≡ None
    → (length (asked_items_if o (filter_map place_if (asked_keys_if o t))) ≡ length t.keys) × (first (map key_refusal more) ≡ None)
at_table None t more there is = absurd (cc)
at_table (Some table) t more there is =
    let all = all_keys (asked_keys_if (Some table) t) more is in
    (length-map (filter_map place_if (asked_keys_if (Some table) t)) _ ∙ all.0 ∙ length-map t.keys _, all.1)

pub have_items :
    (db : Database) (ts : List TableKeys) → first (map (λ t. missing db t.table) ts) ≡ None
    → first (map key_refusal (flat_map (asked_keys db) ts)) ≡ None → HaveItems db ts
have_items db [] there is = tt
have_items db (t ∷ ts) there is =
    let known = both_none (missing db t.table) (map (λ u. missing db u.table) ts) there in
    let here = at_table (table_named db t.table) t (flat_map (asked_keys db) ts) known.0 is in
    (here.0, have_items db ts known.1 here.1)

-- a request that is not refused is read
pub read_is :
    (db : Database) (r : BatchGet) (items : List (Option Attributes)) (reply : Reply) → batch_get_refusal db r.tables ≡ None
    → items ≡ flat_map (asked_items db) r.tables → reply ≡ read_of r.capacity r.tables items → batch_get db r ≡ (db, reply)
read_is db r items reply fit is told =
    let ts = r.tables in
    let tables = both_none (first (map (λ t. missing db t.table) ts)) _ fit in
    let keys = both_none (first (map key_refusal (flat_map (asked_keys db) ts))) _ tables.1 in
    let count = read_count most_batch_bytes (flat_map (asked_items db) ts) in
    let shown : found_among ts (take count (flat_map (asked_items db) ts)) ≡ found db count ts = found_is db ts count (have_items db ts tables.0 keys.0) in
    let used : used_among ts (take count (flat_map (asked_items db) ts)) ≡ used_by_reads db count ts = used_is db ts count (have_items db ts tables.0 keys.0) in
    ap (λ (o : Option Refusal). unless db o (db, BatchRead (found db count ts) (unread count ts) (where_asked r.capacity (used_by_reads db count ts)))) fit
    ∙ sym ((λ i. (db, told i)) ∙ (λ i. (db, read_of r.capacity ts (is i)))
    ∙ (λ i. (db, BatchRead (shown i) (unread count ts) (where_asked r.capacity (used i)))))

-- and one that is refused is not
pub refused_is : (db : Database) (r : BatchGet) (why : Refusal) → batch_get_refusal db r.tables ≡ Some why → batch_get db r ≡ (db, Refused why)
refused_is db r why is =
    let ts = r.tables in
    let count = read_count most_batch_bytes (flat_map (asked_items db) ts) in
    ap (λ (o : Option Refusal). unless db o (db, BatchRead (found db count ts) (unread count ts) (where_asked r.capacity (used_by_reads db count ts)))) is

-- the same of the tables that are kept
pub answered :
    (es : Kept) (r : BatchGet) (items : List (Option Attributes)) (ts : List TableKeys) (reply : Reply) → ts ≡ r.tables
    → batch_get_refusal (tables_alone es) ts ≡ None → items ≡ flat_map (asked_items (tables_alone es)) ts → reply ≡ read_of r.capacity r.tables items
    → IsRead es r reply
answered es r items ts reply same fit is told = λ tokens made.
    read_is (database_in es tokens made) r items reply (ap (batch_get_refusal (tables_alone es)) (sym same) ∙ fit)
    (is ∙ ap (flat_map (asked_items (tables_alone es))) same) told
