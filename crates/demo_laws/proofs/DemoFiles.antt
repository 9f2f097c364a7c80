-- The demonstration files, for each number of shares, by computing what the definitions say of their texts.
use Rattle.std.proofs.Common.{◌≤◌, ℕ, zero, suc, [], ◌∷◌, length, refl, codes, arith}
use Rattle.std.specs.Fmt.{digits}
use Rattle.std.proofs.lemmas.Bool.{leb-true}
use Rattle.gadget_text.specs.Limits.{most_file_bytes}
use Rattle.gadget_text.specs.Lines.{has_header, header_behind}
use Rattle.gadget_text.specs.Names.{is_name}
use Rattle.gadget_maker.specs.Texts.{isw_text, refresh_text}
use Rattle.demo_laws.specs.Demos.{IsDemoFile}
use Rattle.demo_laws.proofs.Gadgets.{isw_operations, refresh_operations, gadget_for, header_variables_for}
use Rattle.demo_laws.proofs.Files.{file_says}
use Rattle.demo_laws.proofs.Class.{IsInClass-from_test}

isw_2 : IsDemoFile (isw_text 2)
unfolding digits isw_text gadget_for has_header header_behind is_name
isw_2 =
    let g = gadget_for 2 (codes "a" ∷ codes "b" ∷ []) (codes "c") (isw_operations 2) in
    record {
      few_bytes = leb-true (length (isw_text 2)) most_file_bytes refl;
      gadget = g;
      says = file_says (isw_text 2) 2 (codes "a" ∷ codes "b" ∷ []) (codes "c") (isw_operations 2) (header_variables_for 2 (codes "a" ∷ codes "b" ∷ [])) g.variables g refl refl refl refl refl;
      in_class = IsInClass-from_test g refl;
      one_output = refl;
    }

isw_3 : IsDemoFile (isw_text 3)
unfolding digits isw_text gadget_for has_header header_behind is_name
isw_3 =
    let g = gadget_for 3 (codes "a" ∷ codes "b" ∷ []) (codes "c") (isw_operations 3) in
    record {
      few_bytes = leb-true (length (isw_text 3)) most_file_bytes refl;
      gadget = g;
      says = file_says (isw_text 3) 3 (codes "a" ∷ codes "b" ∷ []) (codes "c") (isw_operations 3) (header_variables_for 3 (codes "a" ∷ codes "b" ∷ [])) g.variables g refl refl refl refl refl;
      in_class = IsInClass-from_test g refl;
      one_output = refl;
    }

isw_4 : IsDemoFile (isw_text 4)
unfolding digits isw_text gadget_for has_header header_behind is_name
isw_4 =
    let g = gadget_for 4 (codes "a" ∷ codes "b" ∷ []) (codes "c") (isw_operations 4) in
    record {
      few_bytes = leb-true (length (isw_text 4)) most_file_bytes refl;
      gadget = g;
      says = file_says (isw_text 4) 4 (codes "a" ∷ codes "b" ∷ []) (codes "c") (isw_operations 4) (header_variables_for 4 (codes "a" ∷ codes "b" ∷ [])) g.variables g refl refl refl refl refl;
      in_class = IsInClass-from_test g refl;
      one_output = refl;
    }

isw_5 : IsDemoFile (isw_text 5)
unfolding digits isw_text gadget_for has_header header_behind is_name
isw_5 =
    let g = gadget_for 5 (codes "a" ∷ codes "b" ∷ []) (codes "c") (isw_operations 5) in
    record {
      few_bytes = leb-true (length (isw_text 5)) most_file_bytes refl;
      gadget = g;
      says = file_says (isw_text 5) 5 (codes "a" ∷ codes "b" ∷ []) (codes "c") (isw_operations 5) (header_variables_for 5 (codes "a" ∷ codes "b" ∷ [])) g.variables g refl refl refl refl refl;
      in_class = IsInClass-from_test g refl;
      one_output = refl;
    }

pub isw_file : (n : ℕ) → 2 ≤ n → n ≤ 5 → IsDemoFile (isw_text n)
isw_file zero l h = absurd (omega arith)
isw_file (suc zero) l h = absurd (omega arith)
isw_file (suc (suc zero)) l h = isw_2
isw_file (suc (suc (suc zero))) l h = isw_3
isw_file (suc (suc (suc (suc zero)))) l h = isw_4
isw_file (suc (suc (suc (suc (suc zero))))) l h = isw_5
isw_file (suc (suc (suc (suc (suc (suc n)))))) l h = absurd (omega arith)

refresh_2 : IsDemoFile (refresh_text 2)
unfolding digits refresh_text gadget_for has_header header_behind is_name
refresh_2 =
    let g = gadget_for 2 (codes "a" ∷ []) (codes "d") (refresh_operations 2) in
    record {
      few_bytes = leb-true (length (refresh_text 2)) most_file_bytes refl;
      gadget = g;
      says = file_says (refresh_text 2) 2 (codes "a" ∷ []) (codes "d") (refresh_operations 2) (header_variables_for 2 (codes "a" ∷ [])) g.variables g refl refl refl refl refl;
      in_class = IsInClass-from_test g refl;
      one_output = refl;
    }

refresh_3 : IsDemoFile (refresh_text 3)
unfolding digits refresh_text gadget_for has_header header_behind is_name
refresh_3 =
    let g = gadget_for 3 (codes "a" ∷ []) (codes "d") (refresh_operations 3) in
    record {
      few_bytes = leb-true (length (refresh_text 3)) most_file_bytes refl;
      gadget = g;
      says = file_says (refresh_text 3) 3 (codes "a" ∷ []) (codes "d") (refresh_operations 3) (header_variables_for 3 (codes "a" ∷ [])) g.variables g refl refl refl refl refl;
      in_class = IsInClass-from_test g refl;
      one_output = refl;
    }

refresh_4 : IsDemoFile (refresh_text 4)
unfolding digits refresh_text gadget_for has_header header_behind is_name
refresh_4 =
    let g = gadget_for 4 (codes "a" ∷ []) (codes "d") (refresh_operations 4) in
    record {
      few_bytes = leb-true (length (refresh_text 4)) most_file_bytes refl;
      gadget = g;
      says = file_says (refresh_text 4) 4 (codes "a" ∷ []) (codes "d") (refresh_operations 4) (header_variables_for 4 (codes "a" ∷ [])) g.variables g refl refl refl refl refl;
      in_class = IsInClass-from_test g refl;
      one_output = refl;
    }

refresh_5 : IsDemoFile (refresh_text 5)
unfolding digits refresh_text gadget_for has_header header_behind is_name
refresh_5 =
    let g = gadget_for 5 (codes "a" ∷ []) (codes "d") (refresh_operations 5) in
    record {
      few_bytes = leb-true (length (refresh_text 5)) most_file_bytes refl;
      gadget = g;
      says = file_says (refresh_text 5) 5 (codes "a" ∷ []) (codes "d") (refresh_operations 5) (header_variables_for 5 (codes "a" ∷ [])) g.variables g refl refl refl refl refl;
      in_class = IsInClass-from_test g refl;
      one_output = refl;
    }

pub refresh_file : (n : ℕ) → 2 ≤ n → n ≤ 5 → IsDemoFile (refresh_text n)
refresh_file zero l h = absurd (omega arith)
refresh_file (suc zero) l h = absurd (omega arith)
refresh_file (suc (suc zero)) l h = refresh_2
refresh_file (suc (suc (suc zero))) l h = refresh_3
refresh_file (suc (suc (suc (suc zero)))) l h = refresh_4
refresh_file (suc (suc (suc (suc (suc zero))))) l h = refresh_5
refresh_file (suc (suc (suc (suc (suc (suc n)))))) l h = absurd (omega arith)
