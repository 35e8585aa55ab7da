-- A usual program: an interface, two classes, a signal, a property that notifies, an async method that fails, a main loop.
use Rattle.std.specs.Prelude.{refl, ℕ, Bool, true, false, List, [], ◌∷◌, ◌++◌, Some, None, codes, pos}
use Rattle.vg_base.specs.declared.event.VEnd.TheVariants.{Ended}
use Rattle.vala_types.specs.declared.types.IntKind.TheVariants as kind
use Rattle.vala_types.specs.declared.types.Item.{Item}
use Rattle.vala_types.specs.declared.types.ItemShape.TheVariants as item
use Rattle.vala_types.specs.declared.types.Shape.TheVariants as shape
use Rattle.vala_types.specs.declared.types.VType.{VType}
use Rattle.vala_types.specs.declared.owners.Change.TheVariants as change
use Rattle.core_tree.specs.declared.program.Core.{Core}
use Rattle.core_tree.specs.declared.lambda.ScopeAt.{ScopeAt}
use Rattle.core_tree.specs.declared.lambda.Target.TheVariants as bound
use Rattle.core_tree.specs.declared.lambda.Via.TheVariants as via
use Rattle.core_tree.specs.declared.operation.Operation.TheVariants as op
use Rattle.core_tree.specs.declared.tree.CoreExpr.{CoreExpr}
use Rattle.core_tree.specs.declared.tree.CoreExpr.TheVariants as e
use Rattle.core_tree.specs.declared.tree.CoreStmt.{CoreStmt}
use Rattle.core_tree.specs.declared.tree.CoreStmt.TheVariants as st
use Rattle.core_tree.specs.declared.types.Accessor.TheVariants as access
use Rattle.core_tree.specs.declared.types.Making.TheVariants as making
use Rattle.core_tree.specs.declared.values.Arithmetic.TheVariants as arithmetic
use Rattle.core_tree.specs.declared.values.Callee.TheVariants as callee
use Rattle.core_tree.specs.declared.values.Comparison.TheVariants as compare
use Rattle.core_tree.specs.declared.values.LoopCall.TheVariants as loop
use Rattle.core_tree.specs.declared.values.Part.TheVariants as part
use Rattle.core_tree.specs.declared.values.TextCall.TheVariants as call_of
use Rattle.core_tree.proofs.Build.{Printed, here, owned, unowned, void, int, text, object, apply, number, literal, local, this, field, changed, place, assign, set, run, say, of, block, frame, by_value, method, creation, plain_creation, object_class, class, program, with_properties, with_signals, notify, quiet_world, new, call_on, text_param, keep, moved, copied, by_text, act, error_type, bound_to, call_by, signal, interface}
use Rattle.core_tree.specs.declared.types.CoreMethod.{CoreMethod}
use Rattle.core_tree.specs.declared.types.CoreProperty.{CoreProperty}
use Rattle.core_tree.specs.declared.types.CoreType.{CoreType}
use Rattle.core_tree.specs.declared.types.CoreType.TheVariants as declared

-- namespace Shop {
--   public errordomain LoadError { MISSING, BAD }
--   public interface Priced : Object { public abstract int price (); }
--   public class Item : Object, Priced {
--     public string name { get; construct; }
--     public int count { get; set; default = 1; }
--     int unit;
--     public Item (string name, int unit) { Object (name: name); this.unit = unit; }
--     public virtual int price () { return this.unit * this.count; }
--     ~Item () { print ("drop %s\n", this.name); }
--   }
--   public class Sale : Item {
--     public Sale (string name, int unit) { base (name, unit); }
--     public override int price () { return base.price () / 2; }
--   }
--   public class Cart : Object {
--     Item[] items = {};
--     public signal void added (Item item);
--     public void add (Item item) { this.items += item; this.added (item); }
--     public int total () { int sum = 0; foreach (unowned Item i in this.items) sum += i.price (); return sum; }
--     public async int load (string[] lines) throws LoadError {
--       int done = 0;
--       foreach (string line in lines) {
--         Timeout.add (10, this.load.callback);
--         yield;
--         int at = line.index_of (":");
--         if (at < 0) throw new LoadError.BAD ("line %d", done + 1);
--         string name = line.substring (0, at);
--         this.add (new Item (name, int.parse (line.substring (at + 1))));
--         done++;
--       }
--       return done;
--     }
--   }
-- }
abbrev product : VType
product = object 2

abbrev lent : VType
lent = unowned (shape.Class 2)

abbrev cart_type : VType
cart_type = object 4

abbrev elements : Item
elements = record { shape = item.Class 2; nullable = false }

abbrev products : VType
products = owned (shape.Array elements)

abbrev texts : Item
texts = record { shape = item.Text; nullable = false }

abbrev texts_type : VType
texts_type = owned (shape.Array texts)

abbrev main_loop : VType
main_loop = object 0

abbrev type_2 : CoreType
type_2 =
    declared.Class (record {
      base = Some 0;
      interfaces = 1 ∷ [];
      is_a = 2 ∷ 0 ∷ 1 ∷ [];
      cells = text ∷ int ∷ int ∷ [];
      own = 0;
      initials = set (field this 1 int) (keep int (number 1)) ∷ [];
      construct_properties = 0 ∷ [];
      construct_blocks = [];
      destructor = Some 3;
      slots = record { slot = 0; member = 2 } ∷ [];
    })

abbrev type_3 : CoreType
type_3 =
    declared.Class (record {
      base = Some 2;
      interfaces = [];
      is_a = 3 ∷ 2 ∷ 0 ∷ 1 ∷ [];
      cells = text ∷ int ∷ int ∷ [];
      own = 3;
      initials = [];
      construct_properties = [];
      construct_blocks = [];
      destructor = None;
      slots = record { slot = 0; member = 5 } ∷ [];
    })

abbrev type_4 : CoreType
type_4 = class 4 (products ∷ []) (set (field this 0 products) (moved products (apply (op.List elements) [])) ∷ []) None

abbrev name_of : CoreExpr → CoreExpr
name_of o = apply (op.Property 0) (o ∷ [])

abbrev price_of : CoreExpr → CoreExpr
price_of o = call_by (callee.Virtual 0) (o ∷ [])

abbrev calculate : Rattle.core_tree.specs.declared.values.Arithmetic.Arithmetic → CoreExpr → CoreExpr → CoreExpr
calculate o a b = apply (op.Arithmetic o kind.Int32) (a ∷ b ∷ [])

abbrev automatic : List ℕ → VType → ℕ → Bool → CoreProperty
automatic name type cell is_construct =
    record { name = name; kind = type; declared_in = 1; symbol = 0; getter = access.Automatic cell; is_get_owned = false; get_slot = None; setter = access.Automatic cell; set_slot = None; is_construct = is_construct; default = [] }

abbrev lent_text : VType
lent_text = unowned shape.Text

abbrev new_item : CoreMethod
new_item =
    creation (frame (text_param ∷ by_value int ∷ []) [] void) (making.Object (record { property = 0; value = keep lent_text (local 0 lent_text) } ∷ []))
    (block [] (assign int (field this 2 int) (keep int (local 1 int)) ∷ []))

abbrev item_price : CoreMethod
item_price = method (frame [] [] int) (block [] (
    st.Return (keep int (calculate arithmetic.Multiply (field this 2 int) (apply (op.Property 1) (this ∷ []))) ∷ []) here ∷ []
    ))

abbrev drop_item : CoreMethod
drop_item = method (frame [] [] void) (block [] (say (codes "drop %s") (name_of this ∷ []) ∷ []))

abbrev new_sale : CoreMethod
new_sale = creation (frame (text_param ∷ by_value int ∷ []) [] void) (making.Base 1 (keep lent_text (local 0 lent_text) ∷ keep int (local 1 int) ∷ []) here) (block [] [])

abbrev sale_price : CoreMethod
sale_price = method (frame [] [] int) (block [] (st.Return (keep int (calculate arithmetic.Divide (call_on this 2 []) (number 2)) ∷ []) here ∷ []))

abbrev add_item : CoreMethod
add_item = method (frame (by_value lent ∷ []) [] void) (block [] (
    run (apply (op.Append elements false) (place (field this 0 products) ∷ changed change.AddOwner product (local 0 lent) ∷ []))
    ∷ run (apply (op.Emit 1) (this ∷ keep lent (local 0 lent) ∷ []))
    ∷ []
    ))

abbrev total : CoreMethod
total = method (frame [] (int ∷ lent ∷ []) int) (block (of 0 int ∷ []) (
    set (local 0 int) (keep int (number 0))
    ∷ st.Foreach (field this 0 products) elements (local 1 lent) change.Keep (block (of 1 lent ∷ []) (
    run (apply (op.AssignNumber arithmetic.Add kind.Int32 kind.Int32 false) (e.PlaceAndValue (local 0 int) here ∷ price_of (local 1 lent) ∷ [])) ∷ []
    )) here
    ∷ st.Return (keep int (local 0 int) ∷ []) here
    ∷ []
    ))

abbrev at : CoreExpr
at = local 3 int

abbrev line_text : CoreExpr
line_text = local 2 text

abbrev cut_from : CoreExpr → CoreExpr → CoreExpr
cut_from from_place count = apply (op.TextFunction call_of.Substring) (line_text ∷ from_place ∷ count ∷ [])

abbrev minus_one : CoreExpr
minus_one = apply (op.Number true 1) []

abbrev load : CoreMethod
load = record (method (frame (by_value texts_type ∷ []) (int ∷ text ∷ int ∷ text ∷ []) int) (block (of 1 int ∷ []) (
    set (local 1 int) (keep int (number 0))
    ∷ st.Foreach (local 0 texts_type) texts (local 2 text) change.CopyText (block (of 2 text ∷ of 3 int ∷ of 4 text ∷ []) (
    run (apply (op.Loop loop.TimeoutAdd) (number 10 ∷ apply (op.Callback 9 here) [] ∷ []))
    ∷ st.Yield here
    ∷ set at (keep int (apply (op.TextFunction call_of.IndexOf) (line_text ∷ literal (codes ":") ∷ number 0 ∷ [])))
    ∷ st.If (apply (op.CompareNumbers compare.Less) (at ∷ number 0 ∷ []))
    (st.Throw (moved error_type (apply (op.NewError 8 (pos 1) (codes "line %d")) (calculate arithmetic.Add (local 1 int) (number 1) ∷ []))) here) (st.Empty here) here
    ∷ set (local 4 text) (moved text (cut_from (number 0) at))
    ∷ run (call_on this 7 (keep lent (new 2 1 (
    keep lent_text (local 4 text) ∷ keep int (apply (op.TextFunction call_of.ParseInt) (cut_from (calculate arithmetic.Add at (number 1)) minus_one ∷ [])) ∷ []
    )) ∷ []))
    ∷ run (apply (op.Increment arithmetic.Add kind.Int32 true false) (e.PlaceAndValue (local 1 int) here ∷ []))
    ∷ []
    )) here
    ∷ st.Return (keep int (local 1 int) ∷ []) here
    ∷ []
    ))) { is_async = true }

-- int main () {
--   MainLoop loop = new MainLoop ();
--   Shop.Cart cart = new Shop.Cart ();
--   cart.added.connect ((c, item) => { print ("added %s at %d\n", item.name, item.price ()); });
--   Shop.Item pen = new Shop.Sale ("pen", 8);
--   pen.notify["count"].connect ((o, p) => { print ("%s changed\n", p.name); });
--   cart.add (pen);
--   pen.count = 3;
--   string[] lines = { "ink:5", "pad:2", "cap" };
--   cart.load.begin (lines, (o, res) => {
--     try { print ("loaded %d\n", cart.load.end (res)); }
--     catch (Shop.LoadError e) { print ("failed: %s\n", e.message); }
--     print ("total %d\n", cart.total ());
--     loop.quit ();
--   });
--   loop.run ();
--   return 0;
-- }
abbrev inner : ScopeAt
inner = record { via = via.Hold 0; outward = 0 }

abbrev outer : ScopeAt
outer = record { via = via.Target; outward = 0 }

abbrev var : ScopeAt → ℕ → VType → CoreExpr
var from_scope n type = apply (op.Captured from_scope n type) []

abbrev with_two : VType → VType → ℕ → CoreStmt → CoreExpr
with_two a b n body =
    e.Lambda (bound_to (frame (by_value a ∷ by_value b ∷ []) [] void) bound.Nothing) body (record { file = 0; start = n; «end» = n })

abbrev when_loaded : CoreExpr
when_loaded =
    moved act (e.Lambda (bound_to (frame (by_value (unowned (shape.Class 0)) ∷ by_value (unowned shape.AsyncResult) ∷ []) (error_type ∷ []) void) (bound.Captures inner)) (block [] (
    st.Try (block [] (say (codes "loaded %d") (apply (op.End 9 true here) (var outer 1 cart_type ∷ local 1 (unowned shape.AsyncResult) ∷ []) ∷ []) ∷ []))
    (st.Catch (Some 8) None (local 2 error_type ∷ []) (block (of 2 error_type ∷ []) (
    say (codes "failed: %s") (apply (op.Part part.ErrorMessage) (local 2 error_type ∷ []) ∷ []) ∷ []
    )) here ∷ []) [] here
    ∷ say (codes "total %d") (call_on (var outer 1 cart_type) 8 [] ∷ [])
    ∷ run (apply (op.Loop loop.Quit) (var outer 0 main_loop ∷ []))
    ∷ []
    )) here)

abbrev copies : List (List ℕ) → List CoreExpr
copies [] = []
copies (b ∷ bs) = copied (literal b) ∷ copies bs

abbrev main : CoreMethod
main = method (frame [] (object 0 ∷ product ∷ texts_type ∷ []) int) (
    st.Block (of 1 product ∷ of 2 texts_type ∷ []) (record { hold = 0; variables = main_loop ∷ cart_type ∷ []; outer = None; this = None; parameters = [] } ∷ []) (
    set (var inner 0 main_loop) (moved main_loop (apply (op.Loop loop.New) []))
    ∷ set (var inner 1 cart_type) (moved cart_type (new 4 6 []))
    ∷ run (apply (op.Connect 1 None false true true (callee.Delegate None)) (var inner 1 cart_type
    ∷ with_two (unowned (shape.Class 4)) lent 1 (block [] (say (codes "added %s at %d") (name_of (local 1 lent) ∷ price_of (local 1 lent) ∷ []) ∷ [])) ∷ []))
    ∷ set (local 1 product) (moved product (new 3 4 (by_text (codes "pen") ∷ keep int (number 8) ∷ [])))
    ∷ run (apply (op.Connect 0 (Some (codes "count")) false true true (callee.Delegate None)) (local 1 product
    ∷ with_two (unowned (shape.Class 0)) (unowned shape.ParamSpec) 2 (block [] (
    say (codes "%s changed") (apply (op.Part part.PropertyName) (local 1 (unowned shape.ParamSpec) ∷ []) ∷ []) ∷ []
    )) ∷ []))
    ∷ run (call_on (var inner 1 cart_type) 7 (keep lent (local 1 product) ∷ []))
    ∷ assign int (apply (op.Property 1) (local 1 product ∷ [])) (keep int (number 3))
    ∷ set (local 2 texts_type) (moved texts_type (apply (op.List texts) (copies (codes "ink:5" ∷ codes "pad:2" ∷ codes "cap" ∷ []))))
    ∷ run (apply (op.Begin 9 true here) (var inner 1 cart_type ∷ local 2 texts_type ∷ when_loaded ∷ []))
    ∷ run (apply (op.Loop loop.Run) (var inner 0 main_loop ∷ []))
    ∷ st.Return (keep int (number 0) ∷ []) here
    ∷ []
    ) here
    )

abbrev pub shop : Core
shop =
    with_signals (with_properties (
    program (object_class ∷ interface 1 ∷ type_2 ∷ type_3 ∷ type_4 ∷ [])
    (main ∷ new_item ∷ item_price ∷ drop_item ∷ new_sale ∷ sale_price ∷ plain_creation ∷ add_item ∷ total ∷ load ∷ []) []
    ) (automatic (codes "name") text 0 true ∷ automatic (codes "count") int 1 false ∷ [])) (notify ∷ signal (lent ∷ []) None ∷ [])

abbrev lines : List (List ℕ) → List ℕ
lines [] = []
lines (l ∷ ls) = l ++ 10 ∷ lines ls

pub shop_row : Printed shop quiet_world 3000 (lines (
    codes "added pen at 4" ∷ codes "count changed" ∷ codes "added ink at 5" ∷ codes "added pad at 2" ∷ codes "failed: line 3" ∷ codes "total 19"
    ∷ codes "drop pen" ∷ codes "drop ink" ∷ codes "drop pad" ∷ []
    )) (Ended (pos 0)) []
unfolding Rattle.core_tree.specs.declared.tree.CoreExpr.TheViews.out-CoreStmt denote.Hole.Carrier.out Rattle.core_tree.specs.declared.tree.CoreExpr.TheBlock.shown-the_row-CoreStmt-3 denote.Hole.Carrier.shown denote.Hole.Carrier.hidden Rattle.core_tree.specs.declared.tree.CoreExpr.TheViews.out-CoreExpr Rattle.std.specs.Fmt.digits
shop_row = record { says = refl; ends = refl; lives = refl }
