-- What `==` says of two schemas is whether they are equal.
use Rattle.std.proofs.Common.{◌≡◌, ℕ, List, Option, None, Some, bytes_eq, refl, ap}
use Rattle.std.specs.Bool.{Decides}
use Rattle.std.specs.Cmp.{booleans_Decides}
use Rattle.std.specs.Option.{option_eq}
use Rattle.std.proofs.lemmas.Bool.Decides.{Decides-and, Decides-like, Decides-eqb}
use Rattle.std.proofs.lemmas.Slice.Eq.{slice_eq-Decides, bytes_eq-Decides}
use Rattle.table_schema.specs.declared.definition.Definition.{Definition}
use Rattle.table_schema.specs.declared.definition.KeyKind.{KeyKind}
use Rattle.table_schema.specs.declared.definition.KeyKind.TheVariants.{S, N, B}
use Rattle.table_schema.specs.declared.index.Projection.{Projection}
use Rattle.table_schema.specs.declared.index.Projection.TheVariants.{KeysOnly, Include, All}
use Rattle.table_schema.specs.declared.index.LocalIndex.{LocalIndex}
use Rattle.table_schema.specs.declared.index.GlobalIndex.{GlobalIndex}
use Rattle.table_schema.specs.declared.keys.KeyNames.{KeyNames}
use Rattle.table_schema.specs.declared.schema.Schema.{Schema}
use Rattle.table_schema.specs.declared.stream.Stream.{Stream}
use Rattle.table_schema.specs.declared.stream.View.{View}
use Rattle.table_schema.specs.declared.stream.View.TheVariants as view
use Rattle.table_schema.specs.contracts.definition.DefinitionPartialEq.TheImpl as definition_eq
use Rattle.table_schema.specs.contracts.definition.KeyKindPartialEq.TheImpl as kind_eq
use Rattle.table_schema.specs.contracts.index.ProjectionPartialEq.TheImpl as projection_eq
use Rattle.table_schema.specs.contracts.index.LocalIndexPartialEq.TheImpl as local_eq
use Rattle.table_schema.specs.contracts.index.GlobalIndexPartialEq.TheImpl as global_eq
use Rattle.table_schema.specs.contracts.keys.KeyNamesPartialEq.TheImpl as keys_eq
use Rattle.table_schema.specs.contracts.schema.SchemaPartialEq.TheImpl as schema_eq
use Rattle.table_schema.specs.contracts.stream.StreamPartialEq.TheImpl as stream_eq
use Rattle.table_schema.specs.contracts.stream.ViewPartialEq.TheImpl as view_eq

kind_decides : (a b : KeyKind) → Decides (kind_eq.ghosts.eq a b) (a ≡ b)
kind_decides S S = (λ e. refl, λ e. refl)
kind_decides N N = (λ e. refl, λ e. refl)
kind_decides B B = (λ e. refl, λ e. refl)
kind_decides a b = (λ e. absurd (cc), λ e. absurd (cc))

definition_decides : (a b : Definition) → Decides (definition_eq.ghosts.eq a b) (a ≡ b)
definition_decides a b =
    Decides-like _ (λ h i. record { name = h.0 i; kind = h.1 i }) (λ e. (ap (λ d. d.name) e, ap (λ d. d.kind) e))
    (Decides-and _ _ (bytes_eq-Decides a.name b.name) (kind_decides a.kind b.kind))

text_decides : (a b : Option (List ℕ)) → Decides (option_eq bytes_eq a b) (a ≡ b)
text_decides None None = (λ e. refl, λ e. refl)
text_decides (Some a) (Some b) = Decides-like (bytes_eq a b) (λ e. ap Some e) (λ e. cc) (bytes_eq-Decides a b)
text_decides None (Some b) = (λ e. absurd (cc), λ e. absurd (cc))
text_decides (Some a) None = (λ e. absurd (cc), λ e. absurd (cc))

keys_decide : (a b : KeyNames) → Decides (keys_eq.ghosts.eq a b) (a ≡ b)
keys_decide a b =
    Decides-like _ (λ h i. record { partition = h.0 i; sort = h.1 i }) (λ e. (ap (λ k. k.partition) e, ap (λ k. k.sort) e))
    (Decides-and _ _ (bytes_eq-Decides a.partition b.partition) (text_decides a.sort b.sort))

projection_decides : (a b : Projection) → Decides (projection_eq.ghosts.eq a b) (a ≡ b)
projection_decides KeysOnly KeysOnly = (λ e. refl, λ e. refl)
projection_decides All All = (λ e. refl, λ e. refl)
projection_decides (Include a) (Include b) =
    Decides-like _ (λ e. ap Include e) (λ e. cc) (slice_eq-Decides bytes_eq-Decides a b _ refl)
projection_decides a b = (λ e. absurd (cc), λ e. absurd (cc))

local_decides : (a b : LocalIndex) → Decides (local_eq.ghosts.eq a b) (a ≡ b)
local_decides a b =
    Decides-like _ (λ h i. record { name = h.0 i; keys = h.1.0 i; projection = h.1.1 i })
    (λ e. (ap (λ x. x.name) e, (ap (λ x. x.keys) e, ap (λ x. x.projection) e)))
    (Decides-and _ _ (bytes_eq-Decides a.name b.name)
    (Decides-and _ _ (keys_decide a.keys b.keys) (projection_decides a.projection b.projection)))

global_decides : (a b : GlobalIndex) → Decides (global_eq.ghosts.eq a b) (a ≡ b)
global_decides a b =
    Decides-like _ (λ h i. record { name = h.0 i; keys = h.1.0 i; projection = h.1.1 i })
    (λ e. (ap (λ x. x.name) e, (ap (λ x. x.keys) e, ap (λ x. x.projection) e)))
    (Decides-and _ _ (bytes_eq-Decides a.name b.name)
    (Decides-and _ _ (keys_decide a.keys b.keys) (projection_decides a.projection b.projection)))

view_decides : (a b : View) → Decides (view_eq.ghosts.eq a b) (a ≡ b)
view_decides view.KeysOnly view.KeysOnly = (λ e. refl, λ e. refl)
view_decides view.NewImage view.NewImage = (λ e. refl, λ e. refl)
view_decides view.OldImage view.OldImage = (λ e. refl, λ e. refl)
view_decides view.NewAndOldImages view.NewAndOldImages = (λ e. refl, λ e. refl)
view_decides a b = (λ e. absurd (cc), λ e. absurd (cc))

stream_decides : (a b : Stream) → Decides (stream_eq.ghosts.eq a b) (a ≡ b)
stream_decides a b =
    Decides-like _ (λ h i. record { view = h.0 i; number = h.1 i }) (λ e. (ap (λ x. x.view) e, ap (λ x. x.number) e))
    (Decides-and _ _ (view_decides a.view b.view) (Decides-eqb a.number b.number))

streams_decide : (a b : Option Stream) → Decides (option_eq stream_eq.ghosts.eq a b) (a ≡ b)
streams_decide None None = (λ e. refl, λ e. refl)
streams_decide (Some a) (Some b) = Decides-like (stream_eq.ghosts.eq a b) (λ e. ap Some e) (λ e. cc) (stream_decides a b)
streams_decide None (Some b) = (λ e. absurd (cc), λ e. absurd (cc))
streams_decide (Some a) None = (λ e. absurd (cc), λ e. absurd (cc))

pub schema_decides : (a b : Schema) → Decides (schema_eq.ghosts.eq a b) (a ≡ b)
schema_decides a b =
    Decides-like _
    (λ (name, (definitions, (keys, (locals, (globals, (on_demand, (read, (write, (created, (ttl, stream)))))))))) i. record {
      name = name i;
      definitions = definitions i;
      keys = keys i;
      locals = locals i;
      globals = globals i;
      on_demand = on_demand i;
      read_units = read i;
      write_units = write i;
      created = created i;
      ttl = ttl i;
      stream = stream i;
    })
    (λ e. (
      ap (λ s. s.name) e,
      (
        ap (λ s. s.definitions) e,
        (
          ap (λ s. s.keys) e,
          (
            ap (λ s. s.locals) e,
            (
              ap (λ s. s.globals) e,
              (
                ap (λ s. s.on_demand) e,
                (
                  ap (λ s. s.read_units) e,
                  (ap (λ s. s.write_units) e, (ap (λ s. s.created) e, (ap (λ s. s.ttl) e, ap (λ s. s.stream) e))),
                ),
              ),
            ),
          ),
        ),
      ),
    ))
    (Decides-and _ _ (bytes_eq-Decides a.name b.name)
    (Decides-and _ _ (slice_eq-Decides definition_decides a.definitions b.definitions _ refl)
    (Decides-and _ _ (keys_decide a.keys b.keys)
    (Decides-and _ _ (slice_eq-Decides local_decides a.locals b.locals _ refl)
    (Decides-and _ _ (slice_eq-Decides global_decides a.globals b.globals _ refl)
    (Decides-and _ _ (booleans_Decides a.on_demand b.on_demand)
    (Decides-and _ _ (Decides-eqb a.read_units b.read_units)
    (Decides-and _ _ (Decides-eqb a.write_units b.write_units)
    (Decides-and _ _ (Decides-eqb a.created b.created)
    (Decides-and _ _ (text_decides a.ttl b.ttl) (streams_decide a.stream b.stream)))))))))))
