-- The shop keeps the laws that are asked of tables.
use Rattle.std.specs.Prelude.{◌≡◌, ℕ, ◌%◌, true, false, Option, None, Some, is_some, refl, if◌then◌else◌}
use Rattle.std.proofs.Common.{inl, inr, sym, ap, ◌∙◌, arith}
use Rattle.std.proofs.lemmas.Bool.{cases_Bool}
use Rattle.std.proofs.Math.Nat.{le-max_left}
use Rattle.std.proofs.lemmas.Nat.{mod_below}
use Rattle.index_feed.specs.declared.change.Row.{Row}
use Rattle.txn_core.specs.declared.outcome.Outcome.TheVariants.{Unmet}
use Rattle.txn_core.specs.Protocol.{IsLawful}
use Rattle.txn_core.specs.Service.{IsServiceLawful}
use Rattle.txn_core.specs.Indexing.{IsIndexingLawful}
use Rattle.txn_core.specs.State.{on_item}
use Rattle.case_rules.specs.declared.key.Key.{Key}
use Rattle.case_rules.specs.declared.item.Item.{Item}
use Rattle.case_rules.specs.Keys.{same_key, same_name, place_of}
use Rattle.case_rules.specs.KeyLaws.{keys_total, same_itself, same_is, name_is}
use Rattle.case_rules.specs.declared.key.Name.{Name}
use Rattle.case_rules.specs.declared.catalog.Table.{Table}
use Rattle.case_rules.specs.declared.catalog.Catalog.{Catalog}
use Rattle.case_rules.specs.declared.catalog.Command.{Command}
use Rattle.case_rules.specs.declared.catalog.Command.TheVariants.{Create, AddIndex, Drop}
use Rattle.case_rules.specs.Catalogs.{table_of, drawn, has_table, is_numbered, index_of, name_of, subject, first_of, item_in}
use Rattle.case_rules.specs.TableLaws.{has_index, left_alone, index_is, table_drawn, index_drawn, indexes_rise, table_comes, index_comes_new, listed_first}
use Rattle.case_rules.specs.Actions.{meets, done}
use Rattle.case_rules.specs.Rows.{item_of, row_under, page_place}
use Rattle.case_rules.specs.ParameterLaws.{item_itself, item_is, actions_equiv, actions_are}
use Rattle.case_rules.specs.Shop.{refusal, protocol, indexing, service}

pub protocol_lawful : (n : ℕ) → IsLawful (protocol n)
protocol_lawful n =
    record {
      itself = same_itself;
      turned = λ x y e. ap (λ z. same_key y z) (same_is x y e) ∙ same_itself y;
      moved = λ x y z e. ap (λ k. same_key z k) (same_is x y e);
      one_cell = λ x y e. ap (λ k. place_of k.customer k.number % n) (same_is x y e);
      one_place = λ c x y e. ap (λ k. has_table c k) (same_is x y e);
      one_gift = λ d c x y e. ap (λ k. item_in (first_of d c) k) (same_is x y e);
      one_expiry = λ c x y i moment e. refl;
      its_item = λ k. refl;
      removes = λ c k v. refl;
      comes = λ d moment c x h. table_comes d c x.name x.table h;
      known = table_drawn;
      grows = λ d moment c. le-max_left (drawn c) _;
    }

-- the item of a row, or this key where there is no row
abbrev item_or : Key → Option (Row Key Item) → Key
item_or k None = k
item_or k (Some r) = item_of r.key

its_item : (a b : Option ℕ) (k : Key) (v : Item) (r : Row Key Item) → k.customer ≡ a → row_under a b k v ≡ Some r → item_of r.key ≡ k
its_item None (Some customer) k v r none e =
    ap (λ o. item_or k o) (sym e) ∙ λ i. record k { customer = sym none i }
its_item None None k v r none e = absurd (cc)
its_item (Some customer) b k v r some e = absurd (cc)

pub indexing_lawful : (n : ℕ) → IsIndexingLawful (protocol n) indexing
indexing_lawful n =
    record {
      feed = record {
        itself = same_itself;
        ordered = keys_total;
        one = λ x y. refl;
        exact = same_is;
        exact_rows = item_is;
        its_item = λ c g k v r e. its_item k.customer v.customer k v r refl e;
        known = λ c g k e. index_drawn c k g e;
        rising = λ c k. indexes_rise (table_of c k.name) k.table;
      };
      alike = item_itself;
      there = λ c g k e. (index_is (table_of c k.name) k.table g e).0;
      comes = λ d moment c g k e. index_comes_new d c k.name k.table g e;
      steady = λ d moment c g k v now before. refl;
      brings = λ d c k e. listed_first (first_of d c) k e;
    }

-- an item of a table that is there and not the command's is of another name
pub apart_name :
    (d : Command) (c : Catalog) (name : Name) (n : ℕ) → refusal d (table_of c (name_of d)) ≡ None → is_numbered (subject d c) n ≡ false
    → is_numbered (table_of c name) n ≡ true → same_name (name_of d) name ≡ false
apart_name d c name n kept away there = elim (cases_Bool (same_name (name_of d) name)) [
  | inl one ↦ absurd (same_table d (table_of c name) kept away (ap (λ m. table_of c m) (name_is (name_of d) name one)) there)
  | inr other ↦ other
]
  where
    no_table_of : (o : Option Table) (m : Name) (first : Option Item) → refusal (Create m first) o ≡ None → o ≡ None
    no_table_of None m first e = refl
    no_table_of (Some t) m first e = absurd (cc)

    same_table :
        (d2 : Command) (t : Option Table) → refusal d2 (table_of c (name_of d2)) ≡ None → is_numbered (subject d2 c) n ≡ false
        → table_of c (name_of d2) ≡ t → is_numbered t n ≡ true → ⊥
    same_table (Create m first) t kept away is there =
        let none : t ≡ None = sym is ∙ no_table_of (table_of c m) m first kept in
        let no' : false ≡ true = sym (ap (λ o. is_numbered o n) none) ∙ there in absurd (cc)
    same_table (AddIndex m) t kept away is there =
        let no' : false ≡ true = sym away ∙ ap (λ o. is_numbered o n) is ∙ there in absurd (cc)
    same_table (Drop m) t kept away is there =
        let no' : false ≡ true = sym away ∙ ap (λ o. is_numbered o n) is ∙ there in absurd (cc)

pub service_lawful : (n : ℕ) → IsServiceLawful (service n)
service_lawful n =
    record {
      core = protocol_lawful n;
      same_parameters = actions_equiv;
      same_items = λ xs ys e q. ap (λ zs. is_some (on_item (protocol n) zs q)) (actions_are xs ys e);
      index = indexing_lawful n;
      cell_below = λ some k. mod_below (place_of k.customer k.number) n (omega (arith, some));
      page_below = λ some q. mod_below (page_place q) n (omega (arith, some));
      one_concern = λ d c x y e. ap (λ k. is_numbered (subject d c) k.table) (same_is x y e);
      spares = λ d moment c q named away h.
          ap (λ t. is_numbered t q.table) (left_alone d c q.name (apart_name d c q.name q.table named away h)) ∙ h;
      acts_alike = λ d moment c q a v named away h same.
          let key = ap (λ k. same_name (name_of d) k.name) (same_is a.key q same) in
          ap (λ t. if meets a.condition v then done (is_some (index_of t)) a.deed v else Unmet)
          (left_alone d c a.key.name (key ∙ apart_name d c q.name q.table named away h));
      spares_indexes = λ d moment c q g named away h now.
          ap (λ t. has_index t q.table g) (sym (left_alone d c q.name (apart_name d c q.name q.table named away h))) ∙ now;
    }
