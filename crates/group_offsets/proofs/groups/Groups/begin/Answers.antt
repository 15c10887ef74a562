use Rattle.std.proofs.Common.{◌≡◌, ◌++◌, ◌∷◌, [], List, None, sym, subst, ap, ◌∙◌}
use Rattle.std.specs.Map.{values_of}
use Rattle.std.proofs.lemmas.List.{map-append}
use Rattle.std.specs.declared.string.String.{String}
use Rattle.std.specs.declared.alloc.Global.{Global}
use Rattle.group_offsets.specs.declared.group.Group.{Group}
use Rattle.group_offsets.specs.Groups.{find_group}
use Rattle.keyed_tables.proofs.Tables.{entered, keyed_insert}
use Rattle.group_offsets.specs.Named.{name_of, AreNamed}
use Rattle.group_offsets.proofs.groups.Groups.begin.Goals as goal

pub invariant_of-self-2 : goal.invariant_of-self-2
invariant_of-self-2 c =
    let es = c.self.inside.table.entries in
    record {
      named = subst AreNamed (sym c.in_ok-insert.ensures.entries) (keyed_insert name_of es c.in_ok-name.name c.args.group c.in_ok-name.ensures c.self.invariant.named);
      empty = c.self.invariant.empty;
    }

pub returns-clause-ok : goal.returns-clause-ok
returns-clause-ok c =
    let es = c.self.inside.table.entries in
    let none : find_group (values_of es) c.args.group.name ≡ None = ap (λ (gs : List Group). find_group gs c.args.group.name) c.self.view_is ∙ c.requires in
    let begun : c.insert.new.self.entries ≡ es ++ (c.in_ok-name.name, c.args.group) ∷ [] = c.in_ok-insert.ensures.entries ∙ entered name_of es c.in_ok-name.name c.args.group c.in_ok-name.ensures c.self.invariant.named none in
    ap values_of begun
    ∙ map-append (λ (e : String Global × Group). e.1) es ((c.in_ok-name.name, c.args.group) ∷ [])
    ∙ ap (λ (gs : List Group). gs ++ c.args.group ∷ []) c.self.view_is
