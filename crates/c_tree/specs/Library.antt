-- The library: its types, its structs and its functions, as far as a unit can name them.
use Rattle.std.specs.Prelude.{ℕ, zero, suc, Bool, true, false, List, [], ◌∷◌, ◌++◌, codes, Option, Some, None}
use Rattle.c_lexer.specs.declared.token.Constant.{Constant}
use Rattle.c_lexer.specs.declared.token.Constant.TheVariants as constant
use Rattle.c_tree.specs.declared.kinds.KindBase.TheVariants.{Struct, Function}
use Rattle.c_tree.specs.declared.kinds.Kind.{Kind}
use Rattle.c_tree.specs.Kinds.{plain, pointer_to, void, gpointer, int, uint, long, ulong, short, ushort, char, uchar, text}

-- 1. Types

-- what a function takes and gives; None stands for a type that is undeclared
pub record Takes : Type 0 where
  pub result : Option Kind
  pub parameters : List (Option Kind)

-- a field and its kind
pub record Field : Type 0 where
  pub name : List ℕ
  pub kind : Option Kind

-- A struct: the name of its type, its fields where it is defined, and how many cells it takes. Some have cells without a name.
pub record Structure : Type 0 where
  pub name : List ℕ
  pub fields : Option (List Field)
  pub cells : ℕ

-- kinds that are all declared
abbrev pub all : List Kind → List (Option Kind)
all [] = []
all (k ∷ ks) = Some k ∷ all ks

-- the signature that gives and takes these
abbrev pub takes : Kind → List Kind → Takes
takes r ks = record { result = Some r; parameters = all ks }

-- the signatures of the function types and of the class struct, which kinds name by their places here
abbrev pub library_signatures : List Takes
library_signatures =
    takes int (gpointer ∷ [])
    ∷ takes void (gpointer ∷ [])
    ∷ takes void []
    ∷ takes void (pointer_to (plain (Struct 3)) ∷ pointer_to (plain (Struct 9)) ∷ gpointer ∷ [])
    ∷ takes void (pointer_to (plain (Struct 3)) ∷ [])
    ∷ takes void (pointer_to (plain (Struct 3)) ∷ uint ∷ pointer_to (plain (Struct 7)) ∷ pointer_to (plain (Struct 5)) ∷ [])
    ∷ []

-- a field of a known kind
abbrev pub field : List ℕ → Kind → Field
field x k = record { name = x; kind = Some k }

-- a struct by its name, its cells and its fields
abbrev pub structure : List ℕ → ℕ → List Field → Structure
structure x n fs = record { name = x; fields = Some fs; cells = n }

-- the structs, which kinds name by their places here
abbrev pub library_structs : List Structure
library_structs =
    structure (codes "GTypeClass") 1 (field (codes "g_type") ulong ∷ [])
    ∷ structure (codes "GTypeInstance") 1 (field (codes "g_class") (pointer_to (plain (Struct 0))) ∷ [])
    ∷ structure (codes "GTypeInterface") 2 (field (codes "g_type") ulong ∷ field (codes "g_instance_type") ulong ∷ [])
    ∷ structure (codes "GObject") 2 (field (codes "g_type_instance") (plain (Struct 1)) ∷ field (codes "ref_count") ulong ∷ [])
    ∷ structure (codes "GError") 3 (field (codes "domain") uint ∷ field (codes "code") int ∷ field (codes "message") text ∷ [])
    ∷ structure (codes "GParamSpec") 1 (field (codes "name") text ∷ [])
    ∷ structure (codes "GObjectClass") 5 (
    field (codes "g_type_class") (plain (Struct 0))
    ∷ field (codes "constructed") (plain (Function 4))
    ∷ field (codes "set_property") (plain (Function 5))
    ∷ field (codes "get_property") (plain (Function 5))
    ∷ field (codes "finalize") (plain (Function 4))
    ∷ []
    )
    ∷ structure (codes "GValue") 2 []
    ∷ structure (codes "GMainLoop") 2 (field (codes "ref_count") ulong ∷ [])
    ∷ structure (codes "GAsyncResult") 0 []
    ∷ structure (codes "GInterfaceInfo") 3 []
    ∷ []

-- a type of the library: its name and what it means
pub record TypeRow : Type 0 where
  pub name : List ℕ
  pub kind : Kind

-- a type by its name and its kind
abbrev pub means : List ℕ → Kind → TypeRow
means x k = record { name = x; kind = k }

-- the numbers, and `gpointer`
abbrev pub integer_types : List TypeRow
integer_types =
    means (codes "gint8") char
    ∷ means (codes "guint8") uchar
    ∷ means (codes "gint16") short
    ∷ means (codes "guint16") ushort
    ∷ means (codes "gint32") int
    ∷ means (codes "guint32") uint
    ∷ means (codes "gint64") long
    ∷ means (codes "guint64") ulong
    ∷ means (codes "gint") int
    ∷ means (codes "guint") uint
    ∷ means (codes "gshort") short
    ∷ means (codes "gushort") ushort
    ∷ means (codes "gchar") char
    ∷ means (codes "guchar") uchar
    ∷ means (codes "glong") long
    ∷ means (codes "gulong") ulong
    ∷ means (codes "gsize") ulong
    ∷ means (codes "gboolean") int
    ∷ means (codes "gpointer") gpointer
    ∷ means (codes "GType") ulong
    ∷ means (codes "GQuark") uint
    ∷ []

-- the function types
abbrev pub function_types : List TypeRow
function_types =
    means (codes "GSourceFunc") (plain (Function 0))
    ∷ means (codes "GDestroyNotify") (plain (Function 1))
    ∷ means (codes "GInterfaceInitFunc") (plain (Function 1))
    ∷ means (codes "GCallback") (plain (Function 2))
    ∷ means (codes "GAsyncReadyCallback") (plain (Function 3))
    ∷ []

-- structs by their places, from a number on
abbrev pub struct_types : ℕ → List Structure → List TypeRow
struct_types n [] = []
struct_types n (s ∷ ss) = means s.name (plain (Struct n)) ∷ struct_types (suc n) ss

-- all types of the library
abbrev pub library_types : List TypeRow
library_types = integer_types ++ function_types ++ struct_types 0 library_structs

-- what a capital name is: the number of a type, or a number of 32 bits; `NULL` is a `gpointer`
abbrev pub constant_kind : Constant → Kind
constant_kind constant.Null = gpointer
constant_kind constant.True = int
constant_kind constant.False = int
constant_kind constant.SignalRunLast = int
constant_kind constant.SignalMatchId = int
constant_kind constant.SignalMatchFunc = int
constant_kind constant.SignalMatchData = int
constant_kind constant.ConnectAfter = int
constant_kind constant.ParamReadwrite = int
constant_kind constant.ParamConstruct = int
constant_kind c = ulong

-- 2. Functions

-- a literal that an argument must be
pub data Literal : Type 0 where
  Word : Constant → Literal
  -- a number, and whether `-` stands before it
  Figure : Bool → ℕ → Literal

-- what an argument of a function of the library is
pub data RowParameter : Type 0 where
  -- an integer, which is converted to that kind
  Number : Kind → RowParameter
  -- any pointer or function
  Pointer : RowParameter
  Exactly : Literal → RowParameter
  -- any number of integers, pointers and functions, none among them
  Any : RowParameter
  -- any number of pairs of a name and a value, none among them, and then the word `NULL`
  Pairs : RowParameter

-- A function of the library. Some take a type, `(X)`, before their values.
pub record Row : Type 0 where
  pub name : List ℕ
  pub takes_type : Bool
  pub parameters : List RowParameter
  pub result : Kind

-- a function that takes no type
abbrev pub row : List ℕ → List RowParameter → Kind → Row
row x ps r = record { name = x; takes_type = false; parameters = ps; result = r }

-- one that takes a type first
abbrev pub type_row : List ℕ → List RowParameter → Row
type_row x ps = record { name = x; takes_type = true; parameters = ps; result = gpointer }

-- the word `NULL`
abbrev pub null : RowParameter
null = Exactly (Word constant.Null)

-- blocks and arrays
abbrev pub block_rows : List Row
block_rows =
    type_row (codes "g_slice_new0") []
    ∷ record { name = codes "g_slice_free"; takes_type = true; parameters = Pointer ∷ []; result = void }
    ∷ type_row (codes "g_new0") (Number ulong ∷ [])
    ∷ type_row (codes "g_renew") (Pointer ∷ Number ulong ∷ [])
    ∷ row (codes "g_free") (Pointer ∷ []) void
    ∷ []

-- texts, prints and traps
abbrev pub text_rows : List Row
text_rows =
    row (codes "g_strdup") (Pointer ∷ []) gpointer
    ∷ row (codes "g_strndup") (Pointer ∷ Number ulong ∷ []) gpointer
    ∷ row (codes "g_strconcat") (Pointer ∷ Pointer ∷ null ∷ []) gpointer
    ∷ row (codes "g_strdup_printf") (Pointer ∷ Any ∷ []) gpointer
    ∷ row (codes "g_strcmp0") (Pointer ∷ Pointer ∷ []) int
    ∷ row (codes "strlen") (Pointer ∷ []) ulong
    ∷ row (codes "g_str_has_prefix") (Pointer ∷ Pointer ∷ []) int
    ∷ row (codes "g_str_has_suffix") (Pointer ∷ Pointer ∷ []) int
    ∷ row (codes "g_strstr_len") (Pointer ∷ Exactly (Figure true 1) ∷ Pointer ∷ []) gpointer
    ∷ row (codes "g_ascii_strtoll") (Pointer ∷ null ∷ Exactly (Figure false 10) ∷ []) long
    ∷ row (codes "g_printerr") (Pointer ∷ Any ∷ []) void
    ∷ row (codes "g_error") (Pointer ∷ []) void
    ∷ row (codes "vala_rt_read_line") [] gpointer
    ∷ row (codes "g_quark_from_static_string") (Pointer ∷ []) uint
    ∷ []

-- errors
abbrev pub error_rows : List Row
error_rows =
    row (codes "g_error_new") (Number uint ∷ Number int ∷ Pointer ∷ Any ∷ []) gpointer
    ∷ row (codes "g_error_copy") (Pointer ∷ []) gpointer
    ∷ row (codes "g_error_free") (Pointer ∷ []) void
    ∷ row (codes "g_propagate_error") (Pointer ∷ Pointer ∷ []) void
    ∷ row (codes "g_error_matches") (Pointer ∷ Number uint ∷ Number int ∷ []) int
    ∷ []

-- The functions that the machine has. A unit can name these alone.
abbrev pub present_rows : List Row
present_rows = row (codes "g_print") (Pointer ∷ Any ∷ []) void ∷ block_rows ++ text_rows ++ error_rows

-- types and objects
abbrev pub type_rows : List Row
type_rows =
    row (codes "g_type_register_static_simple") (Number ulong ∷ Pointer ∷ Number uint ∷ Pointer ∷ Number uint ∷ Pointer ∷ Exactly (Figure false 0) ∷ []) ulong
    ∷ row (codes "g_type_add_interface_static") (Number ulong ∷ Number ulong ∷ Pointer ∷ []) void
    ∷ row (codes "g_type_interface_add_prerequisite") (Number ulong ∷ Number ulong ∷ []) void
    ∷ row (codes "g_type_interface_peek") (Pointer ∷ Number ulong ∷ []) gpointer
    ∷ row (codes "g_type_class_peek_parent") (Pointer ∷ []) gpointer
    ∷ row (codes "g_type_check_instance_is_a") (Pointer ∷ Number ulong ∷ []) int
    ∷ row (codes "g_object_new") (Number ulong ∷ Pairs ∷ []) gpointer
    ∷ row (codes "g_object_ref") (Pointer ∷ []) gpointer
    ∷ row (codes "g_object_unref") (Pointer ∷ []) void
    ∷ row (codes "g_object_class_install_property") (Pointer ∷ Number uint ∷ Pointer ∷ []) void
    ∷ row (codes "g_object_notify") (Pointer ∷ Pointer ∷ []) void
    ∷ []

-- the kinds of properties: the name, and what a number of that kind is
abbrev pub number_kinds : List TypeRow
number_kinds =
    means (codes "char") char
    ∷ means (codes "uchar") uchar
    ∷ means (codes "int") int
    ∷ means (codes "uint") uint
    ∷ means (codes "long") long
    ∷ means (codes "ulong") ulong
    ∷ means (codes "int64") long
    ∷ means (codes "uint64") ulong
    ∷ []

-- name, nick and blurb, what stands between, and the flags
abbrev pub param_spec : List ℕ → List RowParameter → Row
param_spec x ps = row (codes "g_param_spec_" ++ x) ((Pointer ∷ Pointer ∷ Pointer ∷ ps) ++ Number int ∷ []) gpointer

-- the function that gives a value
abbrev pub value_get : List ℕ → Kind → Row
value_get x k = row (codes "g_value_get_" ++ x) (Pointer ∷ []) k

-- the least and the greatest value and the default
abbrev pub number_rows : List TypeRow → List Row
number_rows [] = []
number_rows (t ∷ ts) = param_spec t.name (Number t.kind ∷ Number t.kind ∷ Number t.kind ∷ []) ∷ value_get t.name t.kind ∷ number_rows ts

-- properties
abbrev pub property_rows : List Row
property_rows =
    param_spec (codes "boolean") (Number int ∷ [])
    ∷ param_spec (codes "string") (Pointer ∷ [])
    ∷ param_spec (codes "object") (Number ulong ∷ [])
    ∷ value_get (codes "boolean") int
    ∷ value_get (codes "string") gpointer
    ∷ value_get (codes "object") gpointer
    ∷ number_rows number_kinds

-- signals and handlers
abbrev pub signal_rows : List Row
signal_rows =
    row (codes "g_signal_new") (Pointer ∷ Number ulong ∷ Exactly (Word constant.SignalRunLast) ∷ Number uint ∷ null ∷ null ∷ null ∷ Exactly (Word constant.TypeNone) ∷ Number uint ∷ Any ∷ []) uint
    ∷ row (codes "g_signal_emit") (Pointer ∷ Number uint ∷ Exactly (Figure false 0) ∷ Any ∷ []) void
    ∷ row (codes "g_signal_connect_data") (Pointer ∷ Pointer ∷ Pointer ∷ Pointer ∷ Pointer ∷ Number int ∷ []) ulong
    ∷ row (codes "g_signal_connect_object") (Pointer ∷ Pointer ∷ Pointer ∷ Pointer ∷ Number int ∷ []) ulong
    ∷ row (codes "g_signal_handler_disconnect") (Pointer ∷ Number ulong ∷ []) void
    ∷ row (codes "g_signal_handlers_disconnect_matched") (Pointer ∷ Number int ∷ Number uint ∷ Exactly (Figure false 0) ∷ null ∷ Pointer ∷ Pointer ∷ []) uint
    ∷ []

-- the main loop and its sources
abbrev pub loop_rows : List Row
loop_rows =
    row (codes "g_main_loop_new") (null ∷ Exactly (Word constant.False) ∷ []) gpointer
    ∷ row (codes "g_main_loop_ref") (Pointer ∷ []) gpointer
    ∷ row (codes "g_main_loop_unref") (Pointer ∷ []) void
    ∷ row (codes "g_main_loop_run") (Pointer ∷ []) void
    ∷ row (codes "g_main_loop_quit") (Pointer ∷ []) void
    ∷ row (codes "g_idle_add_full") (Number int ∷ Pointer ∷ Pointer ∷ Pointer ∷ []) uint
    ∷ row (codes "g_timeout_add_full") (Number int ∷ Number uint ∷ Pointer ∷ Pointer ∷ Pointer ∷ []) uint
    ∷ row (codes "g_source_remove") (Number uint ∷ []) int
    ∷ []

-- The functions that the machine does not have yet. To a unit they are undeclared; one that it gets moves up.
abbrev pub later_rows : List Row
later_rows = type_rows ++ property_rows ++ signal_rows ++ loop_rows

-- the function with a number, which is its place among those that are present
abbrev pub row_at : List Row → ℕ → Option Row
row_at [] n = None
row_at (r ∷ rs) zero = Some r
row_at (r ∷ rs) (suc n) = row_at rs n
