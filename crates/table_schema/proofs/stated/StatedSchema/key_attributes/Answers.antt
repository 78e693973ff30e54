use Rattle.std.proofs.Common.{◌∙◌, ◌||◌, map}
use Rattle.table_schema.specs.NameSet.{has}
use Rattle.table_schema.specs.Stated.{in_keys}
use Rattle.table_schema.proofs.Attributes.{attribute}
use Rattle.table_schema.proofs.stated.StatedSchema.key_attributes.Goals as goal

pub returns : goal.returns
returns c = λ n.
    attribute n c.args.self.now (has c.insert_all.new.self n) (has c.insert_keys.new.names n) (has c.insert_keys-2.new.names n)
    (c.in_ok-insert_all.ensures.names n
    ∙ (λ i. has (map (λ e. e.name) (c.as_slice.ensures i)) n || has (c.new-names.ensures i) n))
    (c.in_ok-insert_keys.ensures n ∙ (λ i. in_keys n (c.as_slice-2.ensures i) || has c.insert_all.new.self n))
    (c.in_ok-insert_keys-2.ensures n ∙ (λ i. in_keys n (c.as_slice-3.ensures i) || has c.insert_keys.new.names n))
