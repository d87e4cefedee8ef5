use Rattle.std.proofs.Common.{◌≡◌, ◌<◌, ℕ, List, length, map, sym, ap, option_map, ◌∙◌, arith}
use Rattle.std.proofs.lemmas.List.{length-map}
use Rattle.std.specs.Str.{bytes_eq}
use Rattle.row_objects.specs.Objects.{Table}
use Rattle.row_objects.specs.View.{table_entry}
use Rattle.catalog.specs.Catalog.{Catalog}
use Rattle.catalog.proofs.Named.{find-map, index-map}
use Rattle.catalog.proofs.catalog.Catalog.find_table.Goals as goal

within : {T : Type 0} (f : T → Table) (ts : List T) (now : Catalog) (index : ℕ) → map f ts ≡ now.tables → index < length ts → index < length now.tables
within f ts now index is lt = omega (arith, lt, ap length is, length-map ts f)

pub returns-in-Some : goal.returns-in-Some
returns-in-Some g c = record {
  index = rw (← c.self.view_is) (c.in-Some.ensures.index ∙ sym (index-map table_entry (λ t. bytes_eq c.args.name.now t.name) 0 c.self.inside.tables));
  within = within (λ t. table_entry t) c.self.inside.tables c.args.self.now c.in-Some.index (ap (λ (k : Catalog). k.tables) c.self.view_is) c.in-Some.ensures.within;
  table = rw (← c.self.view_is, c.new.ensures) (ap (option_map table_entry) c.in-Some.ensures.entry ∙ sym (find-map table_entry (λ t. bytes_eq c.args.name.now t.name) c.self.inside.tables));
}

pub returns-in-None : goal.returns-in-None
returns-in-None g c = record {
  index = rw (← c.self.view_is) (c.in-None.ensures.index ∙ sym (index-map table_entry (λ t. bytes_eq c.args.name.now t.name) 0 c.self.inside.tables));
  within = tt;
  table = rw (← c.self.view_is) (ap (option_map table_entry) c.in-None.ensures.entry ∙ sym (find-map table_entry (λ t. bytes_eq c.args.name.now t.name) c.self.inside.tables));
}
