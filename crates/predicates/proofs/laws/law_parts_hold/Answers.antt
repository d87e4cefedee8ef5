use Rattle.predicates.proofs.Connected.{parts_movable, parts_hold}
use Rattle.predicates.proofs.laws.law_parts_hold.Goals as goal

pub returns : goal.returns
returns c = record {
  first_movable = λ e first rest h q. (parts_movable e first rest q h).0;
  rest_movable = λ e first rest h q. (parts_movable e first rest q h).1;
  same_rows = λ e first rest q cells role. parts_hold cells role e first rest q;
}
