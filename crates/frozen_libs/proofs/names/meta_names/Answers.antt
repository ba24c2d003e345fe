use Rattle.luau_tables.proofs.MoreTexts.{extends_on}
use Rattle.frozen_libs.proofs.NumbersKept.{numbered_on}
use Rattle.frozen_libs.proofs.names.meta_names.Goals as goal

pub returns-clause-names : goal.returns-clause-names
returns-clause-names c =
    let n1 = c.number_four.new.names in
    let n2 = c.number_four-2.new.names in
    let n3 = c.number_four-3.new.names in
    let n4 = c.number_four-4.new.names in
    let n5 = c.number_four-5.new.names in
    let e2 = c.number_four-2.ensures.extends in
    let e3 = c.number_four-3.ensures.extends in
    let e4 = c.number_four-4.ensures.extends in
    let e5 = c.number_four-5.ensures.extends in
    let part_a = numbered_on n1 n5 _ _ _ _ c.in_ok-a.a (extends_on n1 n2 n5 e2 (extends_on n2 n3 n5 e3
    (extends_on n3 n4 n5 e4 e5))) c.in_ok-a.ensures.numbers in
    let part_b = numbered_on n2 n5 _ _ _ _ c.in_ok-b.b (extends_on n2 n3 n5 e3 (extends_on n3 n4 n5 e4 e5)) c.in_ok-b.ensures.numbers in
    let part_c = numbered_on n3 n5 _ _ _ _ c.in_ok-c.c (extends_on n3 n4 n5 e4 e5) c.in_ok-c.ensures.numbers in
    let part_d = numbered_on n4 n5 _ _ _ _ c.in_ok-d.d e5 c.in_ok-d.ensures.numbers in
    let part_e = c.in_ok-e.ensures.numbers in
    record {
      index = part_a.one;
      newindex = part_a.two;
      call = part_a.three;
      eq = part_a.four;
      lt = part_b.one;
      le = part_b.two;
      add = part_b.three;
      sub = part_b.four;
      mul = part_c.one;
      div = part_c.two;
      idiv = part_c.three;
      mod_ = part_c.four;
      pow = part_d.one;
      unm = part_d.two;
      concat = part_d.three;
      len = part_d.four;
      iter = part_e.one;
      tostring = part_e.two;
      metatable = part_e.three;
    }
