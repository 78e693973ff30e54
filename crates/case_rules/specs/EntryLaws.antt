-- Entries name their items, and no command changes them.
use Rattle.std.specs.Prelude.{◌≡◌, ℕ, true, false, ◌||◌, Bool, refl, Option, None, Some}
use Rattle.std.specs.Ordering.{nat_cmp, is_eq}
use Rattle.local_index.specs.Entries.{is_among}
use Rattle.index_changes.specs.Entries.{AreEntriesLawful}
use Rattle.case_rules.specs.declared.key.Key.{Key}
use Rattle.case_rules.specs.declared.item.Item.{Item}
use Rattle.case_rules.specs.declared.entry.ShopEntry.{ShopEntry}
use Rattle.case_rules.specs.Keys.{key_cmp, same_key}
use Rattle.case_rules.specs.KeyLaws.{both}
use Rattle.case_rules.specs.Entries.{entries_under, entry_cmp, local_entries}
use Rattle.case_rules.specs.Shop.{service}

or_false : (b : Bool) → (b || false) ≡ true → b ≡ true
or_false true e = refl
or_false false e = e

named : (customer : Option ℕ) (k : Key) (i : Item) (q : ShopEntry) → is_among entry_cmp (entries_under customer k i) q ≡ true → same_key k q.item ≡ true
named None k i q among = absurd (cc)
named (Some customer) k i q among =
    (both (nat_cmp i.amount q.amount) (key_cmp k q.item) (or_false (is_eq (entry_cmp (record { amount = i.amount; item = k }) q)) among)).1

pub entries_lawful : (partitions : ℕ) → AreEntriesLawful (service partitions) local_entries entry_cmp
entries_lawful partitions =
    record {
      named = λ c k i q among. named i.customer k i q among;
      spared = λ d moment c k i fits other there. refl;
    }
