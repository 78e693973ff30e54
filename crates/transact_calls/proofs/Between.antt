-- A table that a Look told of and that is there later was there at each point between.
use Rattle.std.proofs.Common.{◌≡◌, ℕ, ◌+◌, ◌≤◌, List, [], ◌∷◌, ◌++◌, Option, None, Some, option_and_then, refl, sym, ap, subst, ◌∙◌, inl, inr, arith, append_assoc}
use Rattle.txn_core.specs.declared.message.Message.{Message}
use Rattle.txn_core.specs.declared.answer.Answer.{Answer}
use Rattle.txn_core.specs.Legal.{state, IsAnswer, IsLegal}
use Rattle.txn_core.specs.Laws.{catalog_by}
use Rattle.txn_core.proofs.Exports.{catalog_is_serial, follows_at, legal_before}
use Rattle.cell_model.specs.declared.answer.CatalogAnswer.{CatalogAnswer}
use Rattle.cell_model.specs.declared.answer.TableLook.{TableLook}
use Rattle.cell_model.specs.declared.catalog.Catalog.{Catalog}
use Rattle.cell_model.specs.declared.catalog.CatalogTable.{CatalogTable}
use Rattle.cell_model.specs.declared.command.CatalogCommand.{CatalogCommand}
use Rattle.cell_model.specs.declared.question.CatalogQuestion.TheVariants.{Look}
use Rattle.cell_model.specs.Catalogs.{named, numbered, last_drawn}
use Rattle.cell_model.specs.Commands.{subject, kept, catalog_after}
use Rattle.cell_model.specs.Service.{service}
use Rattle.cell_model.specs.Told.{told_look}
use Rattle.cell_model.specs.Pages.{told_table}
use Rattle.cell_model.proofs.Lawful.{service_lawful}
use Rattle.cell_model.proofs.Lookups.{after_or_new, bounded, own_number}
use Rattle.table_history.specs.Entries.{TableMessage, TableAnswer, TableEvent}
use Rattle.table_history.proofs.Found.{number_of_named}
use Rattle.table_history.proofs.KeptHistories.{Keeps, catalogs_are_kept, holds_on}
use Rattle.cell_asks.specs.Answers.{look_answer}
use Rattle.cell_asks.specs.Told.{WasTold}
use Rattle.transact_calls.proofs.Looking.{told_numbered}

-- a table has the number
abbrev pub Numbered : ℕ → List TableEvent → ℕ → Type 0
Numbered n es number = (t : CatalogTable) × (numbered (catalog_by (service n) es).tables number ≡ Some t)

-- ---- a number is drawn once

module _ (number : ℕ) where
  -- the number was drawn
  record IsDrawn (c : Catalog) : Type 0 where
    drawn : number ≤ last_drawn c

  stays_drawn : (d : CatalogCommand) → Keeps IsDrawn d
  stays_drawn d moment c kept was = record { drawn = let low = was.drawn in omega arith }

  -- and its table is gone
  record IsGone (c : Catalog) : Type 0 where
    drawn : number ≤ last_drawn c
    none : numbered c.tables number ≡ None

  stays_gone : (d : CatalogCommand) → Keeps IsGone d
  stays_gone d moment c is_kept was = record {
    drawn = let low = was.drawn in omega arith;
    none =
        elim (after_or_new d moment c number) [
          | inl old ↦ old ∙ ap (option_and_then (kept d (subject d c) (last_drawn c))) was.none
          | inr new ↦
              let high : last_drawn c + 1 ≡ number = own_number (catalog_after d moment c).tables number _ new.is in
              let low = was.drawn in
              absurd (omega arith)
        ];
  }

module _ (n number : ℕ) (newer es : List TableEvent) (legal : IsLegal (service n) (newer ++ es)) (drawn : IsDrawn number (catalog_by (service n) es)) where
  abbrev found : Option CatalogTable
  found = numbered (catalog_by (service n) es).tables number

  between : Numbered n (newer ++ es) number → Numbered n es number
  between later = by_table found refl
    where
      by_table : (o : Option CatalogTable) → found ≡ o → Numbered n es number
      by_table (Some t) is = (t, is)
      by_table None is =
          let gone = holds_on n (IsGone number) (stays_gone number) newer es legal (record { drawn = drawn.drawn; none = is }) in
          absurd (let clash = sym gone.none ∙ later.1 in cc)

-- ---- what a Look told was drawn

told_parts : (x y : CatalogAnswer) → (let a : TableAnswer = Answer.Told x in a) ≡ Answer.Told y → x ≡ y
told_parts x y e = cc

module _ (n : ℕ) (newer older : List TableEvent) (e : TableEvent) (legal : IsLegal (service n) (newer ++ e ∷ older)) (name : List ℕ) (look : TableLook)
    (asked : e.message ≡ Message.Ask (Look name)) (answered : e.answer ≡ look_answer (Some look)) where
  abbrev catalog : Catalog
  catalog = catalog_by (service n) older

  is_told : told_look (Some look) ≡ told_table (named catalog.tables name)
  is_told =
      let follows = follows_at (service n) newer e older legal in
      let answer : e.answer ≡ Answer.Told (told_table (named (state (service n) older).catalog.tables name)) =
      subst (λ (m : TableMessage). IsAnswer (service n) older e.moment m e.answer) asked follows.answer in
      told_parts (told_look (Some look)) (told_table (named (state (service n) older).catalog.tables name)) (sym answered ∙ answer)
      ∙ ap (λ (c : Catalog). told_table (named c.tables name)) (catalog_is_serial (service n) (service_lawful n) older)

  drawn_then : IsDrawn look.number catalog
  drawn_then =
      let kept = catalogs_are_kept n older (legal_before (service n) (newer ++ e ∷ []) older (subst (IsLegal (service n)) (sym (append_assoc newer (e ∷ []) older)) legal)) in
      let t = told_numbered look (named catalog.tables name) is_told in
      let low = (bounded catalog.tables t.0.number t.0 (number_of_named catalog.tables name t.0 kept.apart t.1)).0 in
      let same = t.2 in
      record { drawn = omega arith }

  drawn_after : IsDrawn look.number (catalog_by (service n) (newer ++ e ∷ older))
  unfolding drawn_then
  drawn_after =
      let whole : (newer ++ e ∷ []) ++ older ≡ newer ++ e ∷ older = append_assoc newer (e ∷ []) older in
      subst (λ (es : List TableEvent). IsDrawn look.number (catalog_by (service n) es)) whole
      (holds_on n (IsDrawn look.number) (stays_drawn look.number) (newer ++ e ∷ []) older (subst (IsLegal (service n)) (sym whole) legal) drawn_then)

-- a table that a Look told of is there between, where it is there later
pub there_between : (n : ℕ) (newer es : List TableEvent) → IsLegal (service n) (newer ++ es) → (name : List ℕ) (look : TableLook) → WasTold es name look
    → Numbered n (newer ++ es) look.number → Numbered n es look.number
there_between n newer es legal name look told later =
    let before = legal_before (service n) newer es legal in
    let drawn = drawn_after n told.newer told.older told.entry (subst (IsLegal (service n)) (sym told.is) before) name look told.message told.answer in
    between n look.number newer es legal (subst (λ (xs : List TableEvent). IsDrawn look.number (catalog_by (service n) xs)) told.is drawn) later
