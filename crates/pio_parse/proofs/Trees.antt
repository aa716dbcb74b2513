-- A tree can be told from its terms in postfix order, so tokens have one tree at most.
use Rattle.std.proofs.Common.{◌≡◌, ℕ, List, [], ◌∷◌, ◌++◌, Ok, refl, sym, ap, ◌∙◌, subst, append_assoc, append-nil}
use Rattle.pio_parse.proofs.Shared.{Token, Operator, Add, Subtract, Multiply, NegateOperator, ReverseOperator, Term, NumberTerm, NameTerm, OperatorTerm, expression_at, Expr, IsExpression, postfix, NumberTree as Number, NameTree as Name, Negate, Reverse, Sum, Difference, Product}
use Rattle.pio_parse.proofs.Tests.{same_left, same_value}
use Rattle.pio_parse.proofs.Finds.{finds_tree, reads}

abbrev top : List Expr → Expr
top [] = Number 0
top (tree ∷ trees) = tree

abbrev below : List Expr → List Expr
below [] = []
below (tree ∷ trees) = trees

-- an operator takes the trees of its operands
abbrev with_operator : Operator → List Expr → List Expr
with_operator NegateOperator trees = Negate (top trees) ∷ below trees
with_operator ReverseOperator trees = Reverse (top trees) ∷ below trees
with_operator Add trees = Sum (top (below trees)) (top trees) ∷ below (below trees)
with_operator Subtract trees = Difference (top (below trees)) (top trees) ∷ below (below trees)
with_operator Multiply trees = Product (top (below trees)) (top trees) ∷ below (below trees)

-- the trees that terms in postfix order come to
abbrev trees_of : List Term → List Expr → List Expr
trees_of [] trees = trees
trees_of (NumberTerm n ∷ terms) trees = trees_of terms (Number n ∷ trees)
trees_of (NameTerm name ∷ terms) trees = trees_of terms (Name name ∷ trees)
trees_of (OperatorTerm operator ∷ terms) trees = trees_of terms (with_operator operator trees)

unary_back : (operator : Operator) (terms more : List Term) (trees : List Expr) (tree : Expr)
    → ((more : List Term) (trees : List Expr) → trees_of (terms ++ more) trees ≡ trees_of more (tree ∷ trees))
    → trees_of ((terms ++ OperatorTerm operator ∷ []) ++ more) trees ≡ trees_of more (with_operator operator (tree ∷ trees))
unary_back operator terms more trees tree h = ap (λ terms. trees_of terms trees) (append_assoc terms (OperatorTerm operator ∷ []) more) ∙ h (OperatorTerm operator ∷ more) trees

binary_back : (operator : Operator) (left right more : List Term) (trees : List Expr) (a b : Expr)
    → ((more : List Term) (trees : List Expr) → trees_of (left ++ more) trees ≡ trees_of more (a ∷ trees))
    → ((more : List Term) (trees : List Expr) → trees_of (right ++ more) trees ≡ trees_of more (b ∷ trees))
    → trees_of (((left ++ right) ++ OperatorTerm operator ∷ []) ++ more) trees ≡ trees_of more (with_operator operator (b ∷ a ∷ trees))
binary_back operator left right more trees a b h i =
    ap (λ terms. trees_of terms trees) (append_assoc (left ++ right) (OperatorTerm operator ∷ []) more ∙ append_assoc left right (OperatorTerm operator ∷ more))
    ∙ h (right ++ OperatorTerm operator ∷ more) trees
    ∙ i (OperatorTerm operator ∷ more) (a ∷ trees)

tree_back : (tree : Expr) (more : List Term) (trees : List Expr) → trees_of (postfix tree ++ more) trees ≡ trees_of more (tree ∷ trees)
tree_back (Number n) more trees = refl
tree_back (Name name) more trees = refl
tree_back (Negate tree) more trees = unary_back NegateOperator (postfix tree) more trees tree (tree_back tree)
tree_back (Reverse tree) more trees = unary_back ReverseOperator (postfix tree) more trees tree (tree_back tree)
tree_back (Sum left right) more trees = binary_back Add (postfix left) (postfix right) more trees left right (tree_back left) (tree_back right)
tree_back (Difference left right) more trees = binary_back Subtract (postfix left) (postfix right) more trees left right (tree_back left) (tree_back right)
tree_back (Product left right) more trees = binary_back Multiply (postfix left) (postfix right) more trees left right (tree_back left) (tree_back right)

-- the tree of terms in postfix order
tree_of : List Term → Expr
tree_of terms = top (trees_of terms [])

tree_of_postfix : (tree : Expr) → tree_of (postfix tree) ≡ tree
unfolding tree_of
tree_of_postfix tree = ap (λ terms. top (trees_of terms [])) (sym (append-nil (postfix tree))) ∙ ap top (tree_back tree [] [])

same_tree : (tree other : Expr) → postfix tree ≡ postfix other → tree ≡ other
same_tree tree other e = sym (tree_of_postfix tree) ∙ ap tree_of e ∙ tree_of_postfix other

pub one_expression : (text : List ℕ) (tokens : List Token) (tree other : Expr) (rest rest' : List Token)
    → IsExpression text tokens tree rest → IsExpression text tokens other rest' → (tree ≡ other) × (rest ≡ rest')
one_expression text tokens tree other rest rest' is is' =
    let same = sym (reads text tokens tree rest is) ∙ reads text tokens other rest' is' in (same_tree tree other (same_value same), same_left same)

-- tokens that are read as the terms of a tree have it
pub has_tree : (text : List ℕ) (tokens : List Token) (tree : Expr) (rest : List Token) → expression_at text tokens ≡ Ok (postfix tree, rest) → IsExpression text tokens tree rest
has_tree text tokens tree rest e =
    let found = finds_tree text tokens (postfix tree) rest e in subst (λ (tree : Expr). IsExpression text tokens tree rest) (same_tree found.0 tree found.2) found.1
